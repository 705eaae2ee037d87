use Rattle.ds_fire.proofs.OneFiringMore.{fired_after}
use Rattle.ds_fire.proofs.laws.fired_after.Goals as goal

pub returns : goal.returns
returns c = fired_after
