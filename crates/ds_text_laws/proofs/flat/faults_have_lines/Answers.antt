use Rattle.ds_text_laws.proofs.FaultNumbers.{faults_have_lines_lem}
use Rattle.ds_text_laws.proofs.flat.faults_have_lines.Goals as goal

pub returns : goal.returns
returns c = faults_have_lines_lem
