use Rattle.std.proofs.Common.{◌<◌, ℕ, List, length, subst, sym}
use Rattle.std.specs.Prelude.{All}
use Rattle.std.proofs.lemmas.Result.{IfOk-weaker}
use Rattle.ds_opening.specs.Scheduled.{AreScheduled}
use Rattle.ds_opening.proofs.members.scheduled_members.Goals as goal

pub members_of-requires-clause-within : goal.members_of-requires-clause-within
members_of-requires-clause-within c =
    subst (λ (xs : List ℕ). All (λ k. k < length c.args.numbers.now.of.items) xs) (sym c.as_slice.ensures.value)
    (subst (λ (n : ℕ). All (λ k. k < n) c.in_ok-order.order.items) (sym c.requires.long) c.in_ok-order.ensures.ok.places)

pub returns : goal.returns
returns c = record {
  ok = IfOk-weaker c.members_of.result _ _
      (λ v are. record {
        order = c.as_slice.result.now;
        scheduled = subst (λ (xs : List ℕ). AreScheduled c.args.netlist.now c.args.numbers.now.of.items xs) (sym c.as_slice.ensures.value) c.in_ok-order.ensures.ok;
        members = are;
      }) c.members_of.ensures.ok;
}
