use Rattle.ds_run.proofs.WindowTexts.{windows_spell_run}
use Rattle.ds_run.proofs.laws.windows_spell_run.Goals as goal

pub returns : goal.returns
returns c = windows_spell_run
