use Rattle.ds_netlist.proofs.FaultyCircuits.{faults_are_refused_lem}
use Rattle.ds_split.proofs.OneClustering.{one_grouped_lem}
use Rattle.ds_laws.proofs.PlainNames.{names_are_plain}
use Rattle.ds_laws.proofs.StoppedIsReplayed.{stopped_is_replayed}
use Rattle.ds_laws.proofs.logs.stopped_is_replayed.Goals as goal

pub returns : goal.returns
returns c = stopped_is_replayed names_are_plain faults_are_refused_lem one_grouped_lem
