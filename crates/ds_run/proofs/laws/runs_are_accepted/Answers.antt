use Rattle.ds_run.proofs.RunsAreSound.{runs_are_accepted_lem}
use Rattle.ds_run.proofs.laws.runs_are_accepted.Goals as goal

pub returns : goal.returns
returns c = runs_are_accepted_lem
