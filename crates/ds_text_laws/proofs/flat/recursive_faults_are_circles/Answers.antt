use Rattle.ds_text_laws.proofs.RecursiveModels.{recursive_faults_are_circles_lem}
use Rattle.ds_text_laws.proofs.flat.recursive_faults_are_circles.Goals as goal

pub returns : goal.returns
returns c = recursive_faults_are_circles_lem
