use Rattle.std.proofs.Common.{ℕ, List, Option, Ok, subst, sym}
use Rattle.ds_stage.specs.PlanStage.{plan_stage}
use Rattle.ds_stage.specs.Ends.{Answers, RoseIn}
use Rattle.ds_stage.proofs.plan.plan_of.Goals as goal

pub returns-in-Ok-clause-value : goal.returns-in-Ok-clause-value
returns-in-Ok-clause-value g c =
    subst (λ (graph : Option (List ℕ)). Answers (plan_stage (g.F.Files.held c.args.files.now) graph c.args.latches)
    (RoseIn (g.F.Files.faults c.args.files.now) (g.F.Files.faults c.args.files.now)) (Ok c.in-Ok.plan))
    (sym c.in-None.is) c.in-Ok.ensures.ok
