use Rattle.ds_laws.proofs.PrintedIsTaken.{printed_graphs_are_read}
use Rattle.ds_laws.proofs.graphs.printed_graphs_are_read.Goals as goal

pub returns : goal.returns
returns c = printed_graphs_are_read
