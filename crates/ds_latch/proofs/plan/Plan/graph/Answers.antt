use Rattle.std.proofs.Common.{subst}
use Rattle.ds_latch.specs.Plan.{IsController, Planned}
use Rattle.ds_latch.proofs.OrderTokens.{accepted_controls}
use Rattle.ds_latch.proofs.plan.Plan.graph.Goals as goal

pub returns-clause-controls : goal.returns-clause-controls
returns-clause-controls c =
    subst (λ (p : Planned). IsController p.split p.graph) c.self.view_is (accepted_controls c.self.inside.latches c.self.inside.graph c.self.invariant)
