use Rattle.std.proofs.Common.{ℕ, List, subst}
use Rattle.ds_stage.specs.FaultText.{file_line}
use Rattle.ds_stage.specs.Ends.{SaysRefused}
use Rattle.ds_stage.proofs.RateStages.{says_free}
use Rattle.ds_stage.proofs.bare_graph.free_cycle.Goals as goal

pub returns-in-Ok : goal.returns-in-Ok
returns-in-Ok c =
    says_free c.args.name.now c.args.graph.now c.args.events c.in-Ok.text.items c.requires c.in-Ok.ensures c.refused.result
    (subst (λ (t : List ℕ). SaysRefused (file_line c.args.name.now t) c.refused.result) c.deref.ensures.value c.refused.ensures)
