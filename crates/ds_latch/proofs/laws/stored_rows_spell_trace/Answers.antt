use Rattle.ds_latch.proofs.Spelt.{stored_rows_spell_trace}
use Rattle.ds_latch.proofs.laws.stored_rows_spell_trace.Goals as goal

pub returns : goal.returns
returns c = stored_rows_spell_trace
