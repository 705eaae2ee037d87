-- Firings turn by turn and by time are legal lists.
use Rattle.std.proofs.Common.{◌≡◌, ◌<◌, ◌≤◌, ◌+◌, ◌-◌, ℕ, List, length, refl, inl, inr, arith, ap}
use Rattle.std.specs.Prelude.{Contains, slice_index}
use Rattle.std.proofs.lemmas.Bool.{cases_lt}
use Rattle.std.proofs.lemmas.List.Elements.{All-contains}
use Rattle.ds_marked.specs.Graph.{Graph, AreEnds}
use Rattle.ds_marked.specs.declared.marked.Arc.{Arc}
use Rattle.ds_period.specs.Timing.{timed_arcs}
use Rattle.ds_rank.specs.Rank.{AreRanks}
use Rattle.ds_times.specs.Schedule.{WaitsAlong}
use Rattle.ds_times.specs.Order.{FiresBefore, Firing, IsListedBefore}
use Rattle.ds_times.proofs.Times.{never_fall}
use Rattle.ds_times.proofs.ArcsByRank.{ranked_live, timed_rises}
use Rattle.ds_graph_laws.proofs.Arcs.{has_timed}
use Rattle.ds_graph_laws.proofs.CausalOrders.{IsCausal, causal_next, causal_window, firing}
use Rattle.ds_graph_laws.proofs.OneWayOrders.{fires_one_way, listed_one_way}
use Rattle.ds_graph_laws.specs.OneSchedule.{IsScheduleOf}
use Rattle.ds_graph_laws.specs.Listed.{ListedAreLegal, ListedAreNumbered, TimedAreLegal}

module _ (g : Graph) (ranks : List ℕ) (ends : AreEnds (length g.events) g.arcs) (are : AreRanks g ranks) where
  -- a firing is listed behind those that it waits for
  listed_by_arcs : (arc : Arc) → Contains g.arcs arc → (j k : ℕ) → j + arc.tokens ≤ k
      → IsListedBefore (λ v. slice_index ranks v) (firing arc.source j) (firing arc.target k)
  listed_by_arcs arc (i, inside, is) j k few = elim (cases_lt j k) [
    | inl lt ↦ inl lt
    | inr ge ↦
        let up = are.above arc.source arc.target (i, arc, inside, is, (refl, refl, omega arith)) in
        inr (omega arith, inl (omega arith))
  ]

  listed_causal : (turns : ℕ) → IsCausal g turns (IsListedBefore (λ v. slice_index ranks v))
  listed_causal turns = record {
    one_way = listed_one_way (λ v. slice_index ranks v);
    by_turns = λ v j k some lt few. inl lt;
    by_arcs = λ arc inside j k some le few. listed_by_arcs arc inside j k le;
  }

  module _ (delays : List ℕ) (same : length delays ≡ length g.arcs) (turns : ℕ) (time : ℕ → ℕ → ℕ) (is : IsScheduleOf g delays turns time) where
    -- times rise from turn to turn
    later_by_turns : (v j k : ℕ) → 0 < j → j ≤ k → k ≤ turns → time v j ≤ time v k
    later_by_turns v j k some le few =
        let live = ranked_live g ranks ends are in
        never_fall (timed_arcs g.arcs delays) live.rank (timed_rises g live delays) turns time is v j k some le few

    -- and along arcs
    later_by_arcs : (arc : Arc) → Contains g.arcs arc → (j k : ℕ) → 0 < j → j + arc.tokens ≤ k → k ≤ turns → time arc.source j ≤ time arc.target k
    later_by_arcs arc inside j k some le few =
        let x = has_timed g.arcs delays same arc inside in
        let waits = All-contains (WaitsAlong time turns) (timed_arcs g.arcs delays) x.timed is.waits x.inside k (omega (arith, x.tokens)) few in
        let up = later_by_turns x.timed.source j (k - x.timed.tokens) some (omega (arith, x.tokens)) (omega arith) in
        let source : time x.timed.source j ≡ time arc.source j = ap (λ (u : ℕ). time u j) x.source in
        let target : time x.timed.target k ≡ time arc.target k = ap (λ (u : ℕ). time u k) x.target in
        omega arith

    at_or_before : (a b : Firing) → time a.event a.turn ≤ time b.event b.turn → IsListedBefore (λ v. slice_index ranks v) a b
        → FiresBefore time (λ v. slice_index ranks v) a b
    at_or_before a b le listed = elim (cases_lt (time a.event a.turn) (time b.event b.turn)) [
      | inl lt ↦ inl lt
      | inr ge ↦ inr (omega arith, listed)
    ]

    timed_causal : IsCausal g turns (FiresBefore time (λ v. slice_index ranks v))
    timed_causal = record {
      one_way = fires_one_way time (λ v. slice_index ranks v);
      by_turns = λ v j k some lt few. at_or_before (firing v j) (firing v k) (later_by_turns v j k some (omega arith) few) (inl lt);
      by_arcs = λ arc inside j k some le few.
          at_or_before (firing arc.source j) (firing arc.target k) (later_by_arcs arc inside j k some le few) (listed_by_arcs arc inside j k le);
    }

pub listed_are_legal : ListedAreLegal
listed_are_legal g ranks ends are turns firings in_order =
    causal_window g ends turns (IsListedBefore (λ v. slice_index ranks v)) (listed_causal g ranks ends are turns) firings in_order

pub listed_are_numbered : ListedAreNumbered
listed_are_numbered g ranks ends are turns firings in_order =
    causal_next g ends turns (IsListedBefore (λ v. slice_index ranks v)) (listed_causal g ranks ends are turns) firings in_order

pub timed_are_legal : TimedAreLegal
timed_are_legal g ranks ends are delays same turns time is firings in_order =
    causal_window g ends turns (FiresBefore time (λ v. slice_index ranks v)) (timed_causal g ranks ends are delays same turns time is) firings in_order
