use Rattle.ds_astg.specs.Text.{place_line}
use Rattle.ds_astg.proofs.TextPieces.{one_more}
use Rattle.ds_astg.proofs.text.put_place_lines.Goals as goal

pub loop-arc-preserved : goal.loop-arc-preserved
loop-arc-preserved g c = one_more (place_line c.args.graph.now) c.loop-arc.arc c.loop-arc.invariant c.put_place_line.ensures
