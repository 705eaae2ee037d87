-- The graph of a plan is acceptable.
use Rattle.std.proofs.Common.{◌≡◌, ℕ, ◌+◌, ◌*◌, ◌<◌, List, length, get_or, length-append, sym, ◌∙◌, ap, subst, arith, Contains}
use Rattle.std.proofs.lemmas.List.Elements.{Contains-append_left}
use Rattle.ds_base.proofs.ListLemmas.{get_or-self}
use Rattle.ds_base.proofs.AppendedPairs.{get_or-left}
use Rattle.ds_marked.specs.Graph.{Graph}
use Rattle.ds_marked.specs.declared.marked.Event.{Event}
use Rattle.ds_latch.specs.Node.{Split, nodes}
use Rattle.ds_latch.specs.Plan.{IsPlan, split_events}
use Rattle.ds_latch.proofs.OrdersRise.{events_long, required_inside}
use Rattle.ds_accept.specs.Accept.{EventStandsAt}
use Rattle.ds_accept.specs.Laws.{PlansAreAcceptable}

module _ (s : Split) (g : Graph) (plan : IsPlan s g) where
  -- each event of a node stands at its own place
  stands : (v : ℕ) → v < 2 * nodes s → EventStandsAt s g v v
  stands v low =
      let own : length (split_events s) ≡ 2 * nodes s = events_long s in
      let number : v < length (split_events s) = omega (own, low, arith) in
      let all : length g.events ≡ length (split_events s) + length plan.extra = ap (λ (es : List Event). length es) plan.events ∙ length-append (split_events s) plan.extra in
      record {
        number = number;
        inside = omega (number, all, arith);
        event = λ d. ap (λ (es : List Event). get_or es v d) plan.events ∙ get_or-left (split_events s) plan.extra v d number;
      }

pub plans_are_acceptable_lem : PlansAreAcceptable
plans_are_acceptable_lem s g plan = record {
  there = λ k d inside. subst (λ (es : List Event). Contains es (get_or (split_events s) k d)) (sym plan.events)
      (Contains-append_left (split_events s) plan.extra (get_or (split_events s) k d) (k, inside, get_or-self (split_events s) k d inside));
  given = λ u v tokens required.
      let (sum, walk, few) = plan.orders u v tokens required in
      let (low, high) = required_inside s u v tokens required in
      record { from = u; to = v; source = stands s g plan u low; target = stands s g plan v high; sum = sum; walk = walk; few = few };
  rank = plan.live.rank;
  rises = plan.live.rises;
}
