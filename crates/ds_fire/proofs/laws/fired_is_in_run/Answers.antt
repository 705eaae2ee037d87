use Rattle.ds_fire.proofs.Lawful.{fired_is_in_run}
use Rattle.ds_fire.proofs.laws.fired_is_in_run.Goals as goal

pub returns : goal.returns
returns c = fired_is_in_run
