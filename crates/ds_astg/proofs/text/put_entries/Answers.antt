use Rattle.ds_astg.specs.Text.{entry_text}
use Rattle.ds_astg.proofs.TextPieces.{one_more}
use Rattle.ds_astg.proofs.text.put_entries.Goals as goal

pub loop-arc-preserved : goal.loop-arc-preserved
loop-arc-preserved g c = one_more (entry_text c.args.graph.now) c.loop-arc.arc c.loop-arc.invariant c.put_entry.ensures
