use Rattle.ds_fire.proofs.Lawful.{stored_spell_trace}
use Rattle.ds_fire.proofs.laws.stored_spell_trace.Goals as goal

pub returns : goal.returns
returns c = stored_spell_trace
