use Rattle.std.proofs.Common.{refl, subst, sym}
use Rattle.ds_latch.specs.Plan.{Planned}
use Rattle.ds_stage.specs.PlanStage.{IsOwnPlan}
use Rattle.ds_stage.proofs.plan.own_plan.Goals as goal

pub returns-in-Ok-clause-ok : goal.returns-in-Ok-clause-ok
returns-in-Ok-clause-ok c =
    subst (λ (p : Planned). IsOwnPlan c.args.latches p) (sym c.of.ensures) (record {
      split = refl;
      graph = record {
        kept = c.arcs-arcs.ensures.kept;
        events = c.in-Ok.ensures.ok_events;
        orders = c.in-Ok.ensures.ok_orders;
        simple = c.in-Ok.ensures.ok_simple;
      };
    })
