use Rattle.ds_blif.proofs.WellFormed.{read_well_formed}
use Rattle.ds_text_laws.proofs.blif.models_are_well_formed.Goals as goal

pub returns : goal.returns
returns c = read_well_formed
