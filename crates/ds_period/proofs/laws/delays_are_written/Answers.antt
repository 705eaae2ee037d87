use Rattle.ds_period.proofs.GivenDelays.{delays_written}
use Rattle.ds_period.proofs.laws.delays_are_written.Goals as goal

pub returns : goal.returns
returns c = delays_written
