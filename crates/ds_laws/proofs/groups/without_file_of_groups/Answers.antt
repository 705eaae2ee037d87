use Rattle.ds_laws.proofs.Grouping.{without_groups_split}
use Rattle.ds_laws.proofs.groups.without_file_of_groups.Goals as goal

pub returns : goal.returns
returns c = without_groups_split
