use Rattle.ds_graph_laws.proofs.Legality.{listed_are_numbered}
use Rattle.ds_graph_laws.proofs.listed.listed_are_numbered.Goals as goal

pub returns : goal.returns
returns c = listed_are_numbered
