use Rattle.std.proofs.Common.{◌≡◌, ◌∙◌, ◌++◌, ℕ, List, Option, ap, subst, sym}
use Rattle.std.proofs.lemmas.Result.{IfOk-weaker}
use Rattle.ds_design.specs.Circuit.{Circuit}
use Rattle.ds_design.specs.declared.design.Gate.{Gate}
use Rattle.ds_opening.specs.Ranked.{AreSortedByRank}
use Rattle.ds_opening.specs.Scheduled.{AreLower, AreScheduled}
use Rattle.ds_opening.proofs.Schedules.{scheduled_by_rank, scheduled_order}
use Rattle.ds_opening.proofs.schedule.scheduled.Goals as goal

pub returns-then-are_lower : goal.returns-then-are_lower
returns-then-are_lower c =
    let drivers : List (Option ℕ) = c.in_ok-drivers.drivers.items in
    let numbers : List ℕ = c.args.numbers.now.of.items in
    let ranks : List ℕ = c.in_ok-ranks.ranks.items in
    let lower : AreLower drivers numbers ranks c.args.netlist.now.tables =
    subst (λ (gs : List Gate). AreLower drivers numbers ranks gs) (c.tables-gates.ensures.tables ∙ ap (λ (d : Circuit). d.tables) c.design.ensures.design)
    (subst (λ (rs : List ℕ). AreLower drivers numbers rs c.tables-gates.result.now) c.as_slice-3.ensures.value
    (subst (λ (ns : List ℕ). AreLower drivers ns c.as_slice-3.result.now c.tables-gates.result.now) c.as_slice-of.ensures.value
    (subst (λ (ds : List (Option ℕ)). AreLower ds c.as_slice-of.result.now c.as_slice-3.result.now c.tables-gates.result.now) c.as_slice-2.ensures.value
    (c.are_lower.ensures c.if-are_lower.true)))) in
    record {
      ok = IfOk-weaker c.by_rank.result _ _
          (λ v is. scheduled_by_rank c.args.netlist.now c.design.ensures.in_range c.design.ensures.accepted c.order-order.result.now c.order-order.ensures
          numbers drivers c.in_ok-drivers.ensures ranks lower v.items
          (subst (λ (rs : List ℕ). AreSortedByRank rs c.order-order.result.now v.items) c.as_slice-then-are_lower.ensures.value is)) c.by_rank.ensures.ok;
    }

pub returns : goal.returns
returns c =
    let order : List ℕ = c.order-order.result.now in
    let items : c.extend_from_slice.new.self.items ≡ c.order-order.result.now =
    c.in_ok-extend_from_slice.ensures.items ∙ ap (λ (xs : List ℕ). xs ++ order) c.new-same.ensures.items in
    record {
      ok = subst (λ (xs : List ℕ). AreScheduled c.args.netlist.now c.args.numbers.now.of.items xs) (sym items)
          (scheduled_order c.args.netlist.now c.design.ensures.in_range c.design.ensures.accepted c.order-order.result.now c.order-order.ensures c.args.numbers.now.of.items);
    }
