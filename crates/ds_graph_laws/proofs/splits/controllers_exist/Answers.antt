use Rattle.ds_graph_laws.proofs.ControllersExist.{controllers_exist}
use Rattle.ds_graph_laws.proofs.splits.controllers_exist.Goals as goal

pub returns : goal.returns
returns c = controllers_exist
