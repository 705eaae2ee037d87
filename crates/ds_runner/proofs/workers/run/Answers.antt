use Rattle.std.proofs.Common.{◌≡◌, ℕ, List, ap, arith, length, subst, sym}
use Rattle.ds_rule.specs.Run.{Run}
use Rattle.ds_rule.specs.Sound.{IsSound}
use Rattle.ds_fabric.specs.Showing.{IsFabricBegun}
use Rattle.ds_runner.specs.FiringOrder.{IsFiringOrder}
use Rattle.ds_runner.specs.Stopped.{IsRunRecord}
use Rattle.ds_runner.specs.Work.{quota_of}
use Rattle.ds_runner.proofs.FinalRecord.{collected, finished, still_holds}
use Rattle.ds_runner.proofs.WorkLemmas.{still_belongs}
use Rattle.ds_runner.proofs.workers.run.Goals as goal

pub share_out-requires-clause-begun : goal.share_out-requires-clause-begun
share_out-requires-clause-begun g c κs within = let begun = c.in_ok-fabric.ensures in
    subst (λ (r : Run). IsFabricBegun r c.in_ok-fabric.fabric c.in_ok-fabric.pass) (sym begun.run_is) begun

pub finish-requires-clause-fits : goal.finish-requires-clause-fits
finish-requires-clause-fits g c =
    let b = still_belongs c.in_ok-fabric.fabric c.share_out.new.pass c.complete.new.pass c.in_ok-number.ensures.ok.0 c.complete.ensures.moved in
    record { table = b.table; run = b.run }

pub finish-requires-clause-all : goal.finish-requires-clause-all
finish-requires-clause-all g c =
    still_holds c.in_ok-fabric.fabric c.share_out.new.pass c.complete.new.pass c.in_ok-number.ensures.ok.0 c.in_ok-number.ensures.ok.1
    c.complete.ensures.moved

pub returns : goal.returns
returns g c = let begun = c.in_ok-fabric.ensures in let pass = c.in_ok-number.ensures in let done = c.complete.ensures in
    let budget = c.budget-budget.result in
    subst (λ (r : Run). IsRunRecord c.args.quota c.args.workers.now.jobs r c.finish.result) begun.run_is
    (finished c.args.quota c.args.workers.now.jobs c.in_ok-fabric.fabric c.share_out.new.pass c.complete.new.pass c.finish.result
    c.quota_left-quota_left.result (subst IsSound (sym begun.run_is) c.requires.sound) c.requires.jobs.0 pass.ok.0 pass.ok.1
    (collected _ budget.workers c.args.workers.now.jobs budget.firings (quota_of c.args.quota) pass.ok_few
    c.budget-budget.ensures.workers.1 c.budget-budget.ensures.firings)
    c.quota_left-quota_left.ensures done.moved done.most done.done c.finish.ensures.same c.finish.ensures.legal c.finish.ensures.counted)

pub complete-requires-clause-order : goal.complete-requires-clause-order
complete-requires-clause-order g c κs within filled =
    let same : c.as_slice.result.now ≡ c.in_ok-order.order.items = c.as_slice.ensures.value in
    subst (IsFiringOrder c.in_ok-fabric.fabric.run) (sym same)
    (subst (λ (r : Run). IsFiringOrder r c.in_ok-order.order.items) (sym c.in_ok-fabric.ensures.run_is)
    (c.in_ok-order.ensures (omega (arith, filled, ap (λ (xs : List ℕ). length xs) same))))
