-- No two arcs of an expansion have the same ends.
use Rattle.std.proofs.Common.{◌≡◌, ◌≢◌, ◌⊎◌, inl, inr, ℕ, ◌+◌, ◌*◌, ◌<◌, ◌≤◌, List, length, get_or, arith, All, AllPairs}
use Rattle.std.specs.List.{flat_map, range_with_len}
use Rattle.std.proofs.lemmas.List.FromFn.{length-range_with_len, get_or-range_with_len}
use Rattle.ds_base.proofs.ListLemmas.{get_or-self}
use Rattle.ds_marked.specs.Graph.{Graph}
use Rattle.ds_marked.specs.declared.marked.Arc.{Arc}
use Rattle.ds_latch.specs.Node.{Split, nodes}
use Rattle.ds_control.specs.Control.{EndsDiffer, IsSimple}
use Rattle.ds_control.specs.Orders.{closing_arc, node_arcs, opening_arc}
use Rattle.ds_control.proofs.ListedArcs.{node_pairs, ends_differ-sym}
use Rattle.ds_control.proofs.Permuted.{pairs_permuted}
use Rattle.ds_control.proofs.TwoForEach.{all_two, pairs_append}
use Rattle.ds_shake.specs.Expansion.{IsExpansion, expanded_arcs, handshake_arcs}
use Rattle.ds_shake.specs.Handshakes.{AreHandshakes}
use Rattle.ds_shake.specs.declared.handshake.Handshake.{Handshake}
use Rattle.ds_shake.proofs.FlatMapLemmas.{all_each, all_flat, pairs_each, pairs_flat}
use Rattle.ds_shake.proofs.HandshakeNodes.{below, joins}

-- one of the four events with a number, behind those of so many nodes
abbrev Within : ℕ → ℕ → ℕ → Type 0
Within count j v = (2 * count + 4 * j ≤ v) × (v < 2 * count + 4 * j + 4)

-- an arc is of the handshake with a number: it leaves one of its events, or leads from a node to one
abbrev IsOf : ℕ → ℕ → Arc → Type 0
IsOf count j a = Within count j a.source ⊎ ((a.source < 2 * count) × Within count j a.target)

-- arcs of two handshakes have other ends
of_others : (count i j : ℕ) (a b : Arc) → i ≢ j → IsOf count i a → IsOf count j b → EndsDiffer a b
of_others count i j a b ne (inl one) (inl two) e = (let same : a.source ≡ b.source = e.0 in omega (one.0, one.1, two.0, two.1, ne, same, arith))
of_others count i j a b ne (inl one) (inr two) e = (let same : a.source ≡ b.source = e.0 in omega (one.0, two.0, same, arith))
of_others count i j a b ne (inr one) (inl two) e = (let same : a.source ≡ b.source = e.0 in omega (one.0, two.0, same, arith))
of_others count i j a b ne (inr one) (inr two) e =
    (let same : a.target ≡ b.target = e.1 in omega (one.1.0, one.1.1, two.1.0, two.1.1, ne, same, arith))

-- an arc of a node has others than that of a handshake
of_node : (count j n : ℕ) (a : Arc) → n < count → IsOf count j a → EndsDiffer (closing_arc n) a × EndsDiffer (opening_arc n) a
of_node count j n a low (inl here) = (
  λ e. let same : 2 * n ≡ a.source = e.0 in omega (low, here.0, same, arith),
  λ e. let same : 2 * n + 1 ≡ a.source = e.0 in omega (low, here.0, same, arith),
)
of_node count j n a low (inr here) = (
  λ e. let same : 2 * n + 1 ≡ a.target = e.1 in omega (low, here.1.0, same, arith),
  λ e. let same : 2 * n ≡ a.target = e.1 in omega (low, here.1.0, same, arith),
)

module _ (count slack : ℕ) (h : Handshake) (producer : h.producer < count) (consumer : h.consumer < count) where
  eight_are_of : All (IsOf count h.number) (handshake_arcs count slack h)
  eight_are_of = all_each (IsOf count h.number) (handshake_arcs count slack h) (inr (omega (producer, arith), (omega arith, omega arith)), (inl (omega arith, omega arith), (inr (omega (consumer, arith), (omega arith, omega arith)), (inl (omega arith, omega arith), (inl (omega arith, omega arith), (inl (omega arith, omega arith), (inl (omega arith, omega arith), (inl (omega arith, omega arith), tt))))))))

  -- the eight have other ends than each other
  eight_differ : AllPairs EndsDiffer (handshake_arcs count slack h)
  eight_differ = pairs_each EndsDiffer (handshake_arcs count slack h) (
    (λ e. omega (producer, e.0, arith), (λ e. omega (e.0, arith), (λ e. omega (producer, e.0, arith), (λ e. omega (producer, e.0, arith), (λ e. omega (producer, e.0, arith), (λ e. omega (producer, e.0, arith), (λ e. omega (producer, e.0, arith), tt))))))),
    (
      (λ e. omega (consumer, e.0, arith), (λ e. omega (e.0, arith), (λ e. omega (e.0, arith), (λ e. omega (e.0, arith), (λ e. omega (e.0, arith), (λ e. omega (e.0, arith), tt)))))),
      (
        (λ e. omega (consumer, e.0, arith), (λ e. omega (consumer, e.0, arith), (λ e. omega (consumer, e.0, arith), (λ e. omega (consumer, e.0, arith), (λ e. omega (consumer, e.0, arith), tt))))),
        (
          (λ e. omega (producer, e.1, arith), (λ e. omega (e.0, arith), (λ e. omega (e.0, arith), (λ e. omega (e.0, arith), tt)))),
          (
            (λ e. omega (e.0, arith), (λ e. omega (e.0, arith), (λ e. omega (e.0, arith), tt))),
            (
              (λ e. omega (e.0, arith), (λ e. omega (e.0, arith), tt)),
              (
                (
                  λ e. omega (e.1, arith),
                  tt,
                ),
                (tt, tt),
              ),
            ),
          ),
        ),
      ),
    ),
  )

module _ (s : Split) (all : List Handshake) (are : AreHandshakes s all) where
  inside_nodes : (k : ℕ) (d : Handshake) → k < length all → ((get_or all k d).producer < nodes s) × ((get_or all k d).consumer < nodes s)
  inside_nodes k d inside = below s (get_or all k d) (joins s all are (get_or all k d) (k, inside, get_or-self all k d inside))

  further_pairs : AllPairs EndsDiffer (flat_map (handshake_arcs (nodes s) s.slack) all)
  further_pairs = pairs_flat (handshake_arcs (nodes s) s.slack) EndsDiffer all
      (λ k d inside. let (producer, consumer) = inside_nodes k d inside in eight_differ (nodes s) s.slack (get_or all k d) producer consumer)
      (λ i j d low inside.
      let early : i < length all = omega (low, inside, arith) in
      let one : (get_or all i d).number ≡ i = are.numbered i early d in
      let two : (get_or all j d).number ≡ j = are.numbered j inside d in
      let differ : (get_or all i d).number ≢ (get_or all j d).number = λ e. absurd (omega (e, one, two, low, arith)) in
      let (p, c) = inside_nodes i d early in
      let (q, e) = inside_nodes j d inside in
      λ k a here m b there.
      of_others (nodes s) (get_or all i d).number (get_or all j d).number
      (get_or (handshake_arcs (nodes s) s.slack (get_or all i d)) k a) (get_or (handshake_arcs (nodes s) s.slack (get_or all j d)) m b) differ
      (eight_are_of (nodes s) s.slack (get_or all i d) p c k a here) (eight_are_of (nodes s) s.slack (get_or all j d) q e m b there))

  node_further : (n : ℕ) → n < nodes s
      → All (EndsDiffer (closing_arc n)) (flat_map (handshake_arcs (nodes s) s.slack) all) × All (EndsDiffer (opening_arc n)) (flat_map (handshake_arcs (nodes s) s.slack) all)
  node_further n low =
      let far : (k : ℕ) (d : Handshake) → k < length all → (m : ℕ) (a : Arc) → m < length (handshake_arcs (nodes s) s.slack (get_or all k d))
      → EndsDiffer (closing_arc n) (get_or (handshake_arcs (nodes s) s.slack (get_or all k d)) m a) × EndsDiffer (opening_arc n) (get_or (handshake_arcs (nodes s) s.slack (get_or all k d)) m a) =
      λ k d inside m a here.
      let (p, c) = inside_nodes k d inside in
      of_node (nodes s) (get_or all k d).number n (get_or (handshake_arcs (nodes s) s.slack (get_or all k d)) m a) low (eight_are_of (nodes s) s.slack (get_or all k d) p c m a here) in (
        all_flat (handshake_arcs (nodes s) s.slack) (EndsDiffer (closing_arc n)) all (λ k d inside m a here. (far k d inside m a here).0),
        all_flat (handshake_arcs (nodes s) s.slack) (EndsDiffer (opening_arc n)) all (λ k d inside m a here. (far k d inside m a here).1),
      )

  pub expanded_differ : AllPairs EndsDiffer (expanded_arcs s all)
  expanded_differ = pairs_append EndsDiffer (node_arcs (nodes s)) (flat_map (handshake_arcs (nodes s) s.slack) all) (node_pairs (nodes s)) further_pairs
      (all_two closing_arc opening_arc (λ a. All (EndsDiffer a) (flat_map (handshake_arcs (nodes s) s.slack) all)) (range_with_len 0 (nodes s))
      (λ k d inside.
      let low : k < nodes s = rw (← length-range_with_len 0 (nodes s)) inside in
      let at : get_or (range_with_len 0 (nodes s)) k d ≡ 0 + k = get_or-range_with_len 0 (nodes s) k d low in
      node_further (get_or (range_with_len 0 (nodes s)) k d) (omega (at, low, arith))))

pub expansion_is_simple : (s : Split) (g : Graph) → IsExpansion s g → IsSimple g
expansion_is_simple s g e = pairs_permuted EndsDiffer ends_differ-sym (expanded_arcs s e.handshakes) g.arcs e.arcs (expanded_differ s e.handshakes e.are)
