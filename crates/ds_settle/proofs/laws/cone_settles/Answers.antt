use Rattle.ds_settle.proofs.ConeReach.{cone_settles}
use Rattle.ds_settle.proofs.laws.cone_settles.Goals as goal

pub returns : goal.returns
returns c = cone_settles
