use Rattle.ds_text_laws.proofs.Clean.{text_printed}
use Rattle.ds_text_laws.proofs.blif.printed_text_is_read.Goals as goal

pub returns : goal.returns
returns c = text_printed
