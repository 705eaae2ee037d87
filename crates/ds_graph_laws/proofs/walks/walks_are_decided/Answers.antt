use Rattle.ds_graph_laws.proofs.LeastSumsExist.{walks_are_decided}
use Rattle.ds_graph_laws.proofs.walks.walks_are_decided.Goals as goal

pub returns : goal.returns
returns c = walks_are_decided
