use Rattle.ds_graph_laws.proofs.LeastSumsExist.{least_sums_exist}
use Rattle.ds_graph_laws.proofs.walks.least_sums_exist.Goals as goal

pub returns : goal.returns
returns c = least_sums_exist
