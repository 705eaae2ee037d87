use Rattle.std.proofs.Common.{ℕ, List, Option, Vec, Global, ap, subst, sym}
use Rattle.ds_accept.specs.Lowered.{AreLowered}
use Rattle.ds_accept.proofs.Lowering.{lowered_both}
use Rattle.ds_accept.proofs.nearest.lower_nearest.Goals as goal
use Rattle.ds_accept.proofs.nearest.lower_nearest.Goals.{then-eq+in_ok-lower_from, else-eq}

pub loop-preserved : goal.loop-preserved
loop-preserved c =
    let old : List (Option ℕ) = c.args.sums.now.items in
    elim c.if-eq.branch [
      | then-eq+in_ok-lower_from w ↦ subst (AreLowered c.args.graph.now.arcs old) (sym (ap (λ (v : Vec (Option ℕ) Global). v.items) w.sums-is))
          (lowered_both c.args.graph.now.arcs old c.loop.sums.items w.lower_from.new.sums.items c.loop.invariant w.in_ok-lower_from.ensures)
      | else-eq w ↦ subst (AreLowered c.args.graph.now.arcs old) (sym (ap (λ (v : Vec (Option ℕ) Global). v.items) w.sums-is)) c.loop.invariant
    ]
