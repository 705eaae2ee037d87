use Rattle.ds_latch.proofs.OrderTokens.{accepted_controls}
use Rattle.ds_latch.proofs.laws.accepted_controls.Goals as goal

pub returns : goal.returns
returns c = accepted_controls
