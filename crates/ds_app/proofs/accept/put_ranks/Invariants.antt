use Rattle.ds_outside.specs.Pen.{Puts}
use Rattle.ds_stage.specs.AcceptStage.{rank_lines}
use Rattle.ds_app.proofs.accept.put_ranks.Given as goal

abbrev pub invariant-loop-v : goal.invariant-loop-v
invariant-loop-v g l = record {
  written : Puts (g.P.Pen.writing l.initial.pen) (g.P.Pen.writing l.pen)
      (rank_lines l.plan.graph l.ranks l.v);
}
