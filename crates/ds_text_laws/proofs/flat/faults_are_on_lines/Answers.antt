use Rattle.ds_text_laws.proofs.FaultLines.{faults_are_on_lines_lem}
use Rattle.ds_text_laws.proofs.flat.faults_are_on_lines.Goals as goal

pub returns : goal.returns
returns c = faults_are_on_lines_lem
