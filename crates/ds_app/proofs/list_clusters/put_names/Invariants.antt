use Rattle.std.specs.Prelude.{map, take}
use Rattle.ds_lines.specs.Print.{line_text}
use Rattle.ds_outside.specs.Pen.{Puts}
use Rattle.ds_groups.specs.Names.{register_names}
use Rattle.ds_groups.specs.Read.{register_name}
use Rattle.ds_app.proofs.list_clusters.put_names.Given as goal

abbrev pub invariant-loop-k : goal.invariant-loop-k
invariant-loop-k g l = record {
  written : Puts (g.P.Pen.writing l.initial.pen) (g.P.Pen.writing l.pen)
      (line_text (map (register_name (register_names l.design)) (take l.k l.registers)));
}
