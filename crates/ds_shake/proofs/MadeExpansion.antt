-- What is made is the expansion.
use Rattle.std.proofs.Common.{◌≡◌, ◌≢◌, ℕ, ◌+◌, ◌*◌, ◌^◌, ◌<◌, ◌≤◌, List, [], ◌++◌, length, sym, ◌∙◌, ap, subst, arith, AllPairs, IsPermutation}
use Rattle.std.specs.List.{flat_map}
use Rattle.ds_marked.specs.Graph.{Graph, AreEnds}
use Rattle.ds_marked.specs.declared.marked.Arc.{Arc}
use Rattle.ds_marked.specs.declared.marked.Event.{Event}
use Rattle.ds_latch.specs.Node.{Split, nodes}
use Rattle.ds_latch.specs.declared.node.Node.TheVariants.{In, Out}
use Rattle.ds_latch.specs.Plan.{node_events}
use Rattle.ds_control.specs.Orders.{cluster_events, node_arcs}
use Rattle.ds_shake.specs.Expansion.{IsExpansion, expanded_arcs, expanded_events, handshake_arcs, handshake_events}
use Rattle.ds_shake.specs.Handshakes.{AreHandshakes}
use Rattle.ds_shake.specs.declared.handshake.Handshake.{Handshake}
use Rattle.ds_shake.proofs.ExpansionIsPlan.{arcs_long, expanded_ends, expanded_long}
use Rattle.ds_shake.proofs.ExpansionEvents.{expanded_once}

pub made_events : (s : Split) (all : List Handshake) (own events : List Event) (clusters : List (List ℕ))
    → own ≡ node_events In ++ node_events Out ++ cluster_events (length clusters) → clusters ≡ s.clusters
    → events ≡ own ++ flat_map handshake_events all → events ≡ expanded_events s all
made_events s all own events clusters is same pushed =
    pushed ∙ ap (λ (es : List Event). es ++ flat_map handshake_events all)
    (is ∙ ap (λ (cs : List (List ℕ)). node_events In ++ node_events Out ++ cluster_events (length cs)) same)

pub made_arcs : (s : Split) (all : List Handshake) (none own arcs : List Arc) (count slack : ℕ)
    → none ≡ [] → count ≡ nodes s → slack ≡ s.slack → own ≡ none ++ node_arcs count
    → arcs ≡ own ++ flat_map (handshake_arcs count slack) all → arcs ≡ expanded_arcs s all
made_arcs s all none own arcs count slack empty same as_far first pushed =
    pushed ∙ (ap (λ (xs : List Arc). xs ++ flat_map (handshake_arcs count slack) all) (first ∙ ap (λ (xs : List Arc). xs ++ node_arcs count) empty)
    ∙ (ap (λ (n : ℕ). node_arcs n ++ flat_map (handshake_arcs n slack) all) same
    ∙ ap (λ (n : ℕ). node_arcs (nodes s) ++ flat_map (handshake_arcs (nodes s) n) all) as_far))

module _ (s : Split) (all : List Handshake) (are : AreHandshakes s all) where
  so_many_events : (events : List Event) → events ≡ expanded_events s all → length events ≡ 2 * nodes s + 4 * length all
  so_many_events events is = ap (λ (es : List Event). length es) is ∙ expanded_long s all are

  pub made_ends : (events : List Event) (arcs : List Arc) → events ≡ expanded_events s all → arcs ≡ expanded_arcs s all → AreEnds (length events) arcs
  made_ends events arcs events_are arcs_are =
      subst (AreEnds (length events)) (sym arcs_are) (expanded_ends s all are (length events) (so_many_events events events_are))

  module _ (few : nodes s + 2 * length all ≤ 65536) where
    pub made_once : (events : List Event) → events ≡ expanded_events s all → AllPairs (λ a b. a ≢ b) events
    made_once events is = subst (AllPairs (λ a b. a ≢ b)) (sym is) (expanded_once s all are few)

    pub made_few : (events : List Event) (arcs : List Arc) → events ≡ expanded_events s all → arcs ≡ expanded_arcs s all
        → (length events < 2 ^ 32) × (length arcs < 2 ^ 32)
    made_few events arcs events_are arcs_are =
        let so_many : length arcs ≡ 2 * nodes s + 8 * length all = ap (λ (xs : List Arc). length xs) arcs_are ∙ arcs_long s all are in
        (omega (so_many_events events events_are, few, arith), omega (so_many, few, arith))

    pub made : (events : List Event) (arcs : List Arc) → events ≡ expanded_events s all → arcs ≡ expanded_arcs s all
        → (g : Graph) → g.events ≡ events → IsPermutation arcs g.arcs → IsExpansion s g
    made events arcs events_are arcs_are g same sorted = record {
      handshakes = all;
      are = are;
      few = few;
      events = same ∙ events_are;
      arcs = subst (λ (xs : List Arc). IsPermutation xs g.arcs) arcs_are sorted;
    }
