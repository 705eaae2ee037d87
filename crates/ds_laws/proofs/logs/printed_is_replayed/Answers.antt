use Rattle.ds_netlist.proofs.FaultyCircuits.{faults_are_refused_lem}
use Rattle.ds_split.proofs.OneClustering.{one_grouped_lem}
use Rattle.ds_laws.proofs.PrintedIsReplayed.{printed_is_replayed}
use Rattle.ds_laws.proofs.logs.printed_is_replayed.Goals as goal

pub returns : goal.returns
returns c = printed_is_replayed faults_are_refused_lem one_grouped_lem
