-- In an expansion both orders of a data edge go by way of its signals.
use Rattle.std.proofs.Common.{◌≡◌, ◌∙◌, ℕ, zero, suc, ◌+◌, ◌*◌, ◌<◌, List, [], ◌∷◌, ◌++◌, length, get_or, length-append, refl, arith, ap, subst}
use Rattle.std.specs.List.{flat_map}
use Rattle.std.proofs.lemmas.List.{get_or-append-add, get_or_append_left}
use Rattle.std.proofs.lemmas.List.Elements.{Contains-append_right}
use Rattle.std.proofs.lemmas.List.Sorted.{Contains-permutation}
use Rattle.ds_marked.specs.Graph.{Graph, IsArc}
use Rattle.ds_marked.specs.declared.marked.Arc.{Arc}
use Rattle.ds_marked.specs.declared.marked.Event.{Event}
use Rattle.ds_marked.specs.declared.marked.Kind.TheVariants.{Rise}
use Rattle.ds_latch.specs.Node.{Split, number_of, nodes}
use Rattle.ds_latch.specs.declared.node.Node.{Node}
use Rattle.ds_latch.specs.Order.{open_tokens, close_tokens}
use Rattle.ds_latch.specs.Plan.{split_events}
use Rattle.ds_latch.proofs.OrderTokens.{edge_tokens}
use Rattle.ds_latch.proofs.OrdersRise.{events_long}
use Rattle.ds_control.specs.Orders.{node_arcs, tokens_after}
use Rattle.ds_control.proofs.Required.{tokens_is}
use Rattle.ds_shake.specs.Expansion.{IsExpansion, acknowledge_name, acknowledge_rises, arc_by_parts, expanded_arcs, freeing_tokens, handshake_arcs, handshake_events, request_name, request_rises}
use Rattle.ds_shake.specs.declared.handshake.Handshake.{Handshake}
use Rattle.ds_shake.proofs.FlatMapLemmas.{in_flat, length_flat}
use Rattle.ds_laws.specs.Shaken.{GoesByHandshake, IsRiseOf, OrdersGoByHandshakes}

-- the four events of each handshake, at their places
at_four : (all : List Handshake) (k i : ℕ) (h : Handshake) (d : Event) → k < length all → i < 4 → get_or all k h ≡ h
    → get_or (flat_map handshake_events all) (4 * k + i) d ≡ get_or (handshake_events h) i d
at_four [] k i h d inside low is = absurd (omega arith)
at_four (x ∷ all) zero i h d inside low is =
    let place : 4 * 0 + i ≡ i = omega arith in
    ap (λ (n : ℕ). get_or (flat_map handshake_events (x ∷ all)) n d) place
    ∙ (get_or_append_left (handshake_events x) (flat_map handshake_events all) d i low ∙ ap (λ (y : Handshake). get_or (handshake_events y) i d) is)
at_four (x ∷ all) (suc k) i h d inside low is =
    let place : 4 * suc k + i ≡ 4 + (4 * k + i) = omega arith in
    ap (λ (n : ℕ). get_or (flat_map handshake_events (x ∷ all)) n d) place
    ∙ (get_or-append-add (handshake_events x) (flat_map handshake_events all) (4 * k + i) d ∙ at_four all k i h d (omega (arith, inside)) low is)

module _ (s : Split) (g : Graph) (e : IsExpansion s g) (h : Handshake) (k : ℕ) (inside : k < length e.handshakes) (is : get_or e.handshakes k h ≡ h) where
  number : h.number ≡ k
  number = subst (λ (x : Handshake). x.number ≡ k) is (e.are.numbered k inside h)

  -- the rise of a signal, behind the events of the nodes
  rise_at : (name : List ℕ) (i v : ℕ) → i < 4 → v ≡ 2 * nodes s + (4 * k + i)
      → ((d : Event) → get_or (handshake_events h) i d ≡ record { signal = name; kind = Rise }) → IsRiseOf g name v
  rise_at name i v low place rises =
      let own : length (split_events s) ≡ 2 * nodes s = events_long s in
      let further : length (flat_map handshake_events e.handshakes) ≡ 4 * length e.handshakes = length_flat handshake_events 4 (λ h. refl) e.handshakes in
      let all : length g.events ≡ length (split_events s) + length (flat_map handshake_events e.handshakes) =
      ap (λ (xs : List Event). length xs) e.events ∙ length-append (split_events s) (flat_map handshake_events e.handshakes) in
      let behind : v ≡ length (split_events s) + (4 * k + i) = omega (arith, place, own) in record {
        inside = omega (arith, place, own, further, all, inside, low);
        is = λ none.
            ap (λ (xs : List Event). get_or xs v none) e.events
            ∙ (ap (λ (n : ℕ). get_or (split_events s ++ flat_map handshake_events e.handshakes) n none) behind
            ∙ (get_or-append-add (split_events s) (flat_map handshake_events e.handshakes) (4 * k + i) none
            ∙ (at_four e.handshakes k i h none inside low is ∙ rises none)));
      }

  -- an arc of the handshake
  arc_at : (u v t i : ℕ) → i < 8 → get_or (handshake_arcs (nodes s) s.slack h) i (arc_by_parts u v t) ≡ arc_by_parts u v t → IsArc g u v t
  arc_at u v t i low at =
      let arc : Arc = arc_by_parts u v t in
      let (place, within, found) = Contains-permutation (expanded_arcs s e.handshakes) g.arcs arc e.arcs
      (Contains-append_right (node_arcs (nodes s)) (flat_map (handshake_arcs (nodes s) s.slack) e.handshakes) arc
      (in_flat (handshake_arcs (nodes s) s.slack) e.handshakes h arc (k, inside, is) (i, low, at))) in
      (place, arc, within, found, (refl, refl, refl))

  goes_by : (p c : Node) → h.producer ≡ number_of p → h.consumer ≡ number_of c → GoesByHandshake s g p c
  goes_by p c from to =
      let tokens : tokens_after h.producer ≡ open_tokens p = ap tokens_after from ∙ tokens_is p in
      let both : open_tokens p + close_tokens s p ≡ s.slack + 1 = edge_tokens s p in
      let same : h.number ≡ k = number in record {
        number = h.number;
        request = request_rises (nodes s) h;
        acknowledge = acknowledge_rises (nodes s) h;
        is_request = rise_at (request_name h.number) 0 (request_rises (nodes s) h) (omega arith) (omega (arith, same)) (λ d. refl);
        is_acknowledge = rise_at (acknowledge_name h.number) 2 (acknowledge_rises (nodes s) h) (omega arith) (omega (arith, same)) (λ d. refl);
        opens = record {
          before = 0;
          behind = tokens_after h.producer;
          first = subst (λ (u : ℕ). IsArc g (2 * u) (request_rises (nodes s) h) 0) from (arc_at (2 * h.producer) (request_rises (nodes s) h) 0 0 (omega arith) refl);
          second = subst (λ (v : ℕ). IsArc g (request_rises (nodes s) h) (2 * v) (tokens_after h.producer)) to (arc_at (request_rises (nodes s) h) (2 * h.consumer) (tokens_after h.producer) 1 (omega arith) refl);
          sum = omega (arith, tokens);
        };
        frees = record {
          before = 0;
          behind = freeing_tokens s.slack h;
          first = subst (λ (u : ℕ). IsArc g (2 * u + 1) (acknowledge_rises (nodes s) h) 0) to (arc_at (2 * h.consumer + 1) (acknowledge_rises (nodes s) h) 0 2 (omega arith) refl);
          second = subst (λ (v : ℕ). IsArc g (acknowledge_rises (nodes s) h) (2 * v) (freeing_tokens s.slack h)) from (arc_at (acknowledge_rises (nodes s) h) (2 * h.producer) (freeing_tokens s.slack h) 3 (omega arith) refl);
          sum = omega (arith, tokens, both);
        };
      }

pub orders_go_by_handshakes : OrdersGoByHandshakes
orders_go_by_handshakes s g e p c edge =
    let (k, h, inside, is, (from, to)) = (e.are.edges p c).0 edge in
    goes_by s g e h k inside is p c from to
