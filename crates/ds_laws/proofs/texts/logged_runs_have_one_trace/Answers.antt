use Rattle.ds_netlist.proofs.FaultyCircuits.{faults_are_refused_lem}
use Rattle.ds_laws.proofs.OneTrace.{logged_runs_have_one_trace}
use Rattle.ds_laws.proofs.texts.logged_runs_have_one_trace.Goals as goal

pub returns : goal.returns
returns c = logged_runs_have_one_trace faults_are_refused_lem
