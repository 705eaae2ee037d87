use Rattle.ds_netlist.proofs.FaultyCircuits.{faults_are_refused_lem}
use Rattle.ds_split.proofs.OneClustering.{one_grouped_lem}
use Rattle.ds_laws.proofs.OneText.{jobs_have_one_text}
use Rattle.ds_laws.proofs.texts.jobs_have_one_text.Goals as goal

pub returns : goal.returns
returns c = jobs_have_one_text faults_are_refused_lem one_grouped_lem
