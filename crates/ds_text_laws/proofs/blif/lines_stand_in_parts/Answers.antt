use Rattle.ds_text_laws.proofs.InParts.{lines_in_parts}
use Rattle.ds_text_laws.proofs.blif.lines_stand_in_parts.Goals as goal

pub returns : goal.returns
returns c = lines_in_parts
