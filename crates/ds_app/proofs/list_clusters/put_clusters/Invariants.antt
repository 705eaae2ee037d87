use Rattle.std.specs.Prelude.{take}
use Rattle.ds_outside.specs.Pen.{Puts}
use Rattle.ds_groups.specs.Names.{register_names}
use Rattle.ds_groups.specs.Written.{clusters_text}
use Rattle.ds_app.proofs.list_clusters.put_clusters.Given as goal

abbrev pub invariant-loop-i : goal.invariant-loop-i
invariant-loop-i g l = record {
  written : Puts (g.P.Pen.writing l.initial.pen) (g.P.Pen.writing l.pen)
      (clusters_text (register_names l.design) (take l.i l.clusters));
}
