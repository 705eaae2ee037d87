use Rattle.ds_settle.proofs.ConeReach.{sources_known}
use Rattle.ds_settle.proofs.laws.sources_are_known.Goals as goal

pub returns : goal.returns
returns c = sources_known
