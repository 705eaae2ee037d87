use Rattle.ds_graph_laws.proofs.LeastSumsExist.{least_is_shown}
use Rattle.ds_graph_laws.proofs.walks.least_is_shown.Goals as goal

pub returns : goal.returns
returns c = least_is_shown
