use Rattle.ds_run.proofs.WindowTexts.{end_spells_run}
use Rattle.ds_run.proofs.laws.end_spells_run.Goals as goal

pub returns : goal.returns
returns c = end_spells_run
