use Rattle.ds_netlist.proofs.FaultyCircuits.{faults_are_refused_lem}
use Rattle.ds_split.proofs.OneClustering.{one_grouped_lem}
use Rattle.ds_laws.proofs.PrintedIsTaken.{printed_graphs_are_taken}
use Rattle.ds_laws.proofs.graphs.printed_graphs_are_taken.Goals as goal

pub returns : goal.returns
returns c = printed_graphs_are_taken faults_are_refused_lem one_grouped_lem
