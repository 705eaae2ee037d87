use Rattle.ds_split.proofs.Keyed.{bare}
use Rattle.ds_split.proofs.laws.without_groups.Goals as goal

pub returns : goal.returns
returns c = bare
