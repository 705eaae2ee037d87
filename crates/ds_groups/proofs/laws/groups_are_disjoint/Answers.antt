use Rattle.ds_groups.proofs.Disjoint.{groups_disjoint}
use Rattle.ds_groups.proofs.laws.groups_are_disjoint.Goals as goal

pub returns : goal.returns
returns c = groups_disjoint
