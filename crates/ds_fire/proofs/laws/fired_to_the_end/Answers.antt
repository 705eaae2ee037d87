use Rattle.ds_fire.proofs.Lawful.{fired_to_the_end}
use Rattle.ds_fire.proofs.laws.fired_to_the_end.Goals as goal

pub returns : goal.returns
returns c = fired_to_the_end
