use Rattle.ds_fire.proofs.OpenNodesHold.{held_is_shown}
use Rattle.ds_fire.proofs.laws.held_is_shown.Goals as goal

pub returns : goal.returns
returns c = held_is_shown
