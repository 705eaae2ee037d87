use Rattle.std.proofs.Common.{Bool, subst, sym}
use Rattle.ds_stage.specs.GraphStage.{wanted_stage}
use Rattle.ds_stage.proofs.expansion.wanted_graph.Goals as goal

pub returns-in-Ok : goal.returns-in-Ok
returns-in-Ok c =
    subst (λ (b : Bool). (wanted_stage c.args.file.now b c.args.latches.now).means c.in-Ok.graph)
    (sym c.if-shake.false) c.in-Ok.ensures
