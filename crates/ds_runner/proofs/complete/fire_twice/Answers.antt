use Rattle.std.proofs.Common.{◌<◌, ap, arith}
use Rattle.ds_rule.specs.Run.{Run}
use Rattle.ds_fabric.specs.Showing.{Showing}
use Rattle.ds_runner.specs.Work.{left}
use Rattle.ds_runner.proofs.WorkLemmas.{not_more}
use Rattle.ds_runner.proofs.complete.fire_twice.Goals as goal
use Rattle.ds_runner.proofs.complete.fire_twice.Goals.{else-caller-gt0-via-then-caller-gt0+else-fire_next, else-caller-gt0-via-else-caller-gt0}

pub returns-else-caller-gt0-clause-told : goal.returns-else-caller-gt0-clause-told
returns-else-caller-gt0-clause-told g c = let run : Run = c.args.workload.now.run in
    let first : left run c.fire_next.new.pass.view < left run c.args.pass.now.view = c.if-not-fire_next.ensures.told in
    elim c.else-caller-gt0.branch [
      | else-caller-gt0-via-then-caller-gt0+else-fire_next w ↦
          (let more = not_more run c.fire_next.new.pass.view w.fire_next-then-caller-gt0.new.pass.view c.args.node w.fire_next-then-caller-gt0.result w.fire_next-then-caller-gt0.ensures.told in
          omega (arith, first, more, ap (λ (p : Showing). left run p.view) w.pass-is))
      | else-caller-gt0-via-else-caller-gt0 w ↦ omega (arith, first, ap (λ (p : Showing). left run p.view) w.pass-is)
    ]
