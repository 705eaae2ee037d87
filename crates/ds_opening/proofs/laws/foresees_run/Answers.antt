use Rattle.ds_opening.proofs.Foreseen.{foresees_run_lem}
use Rattle.ds_opening.proofs.laws.foresees_run.Goals as goal

pub returns : goal.returns
returns c = foresees_run_lem
