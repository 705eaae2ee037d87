use Rattle.ds_text_laws.proofs.Clean.{printed}
use Rattle.ds_text_laws.proofs.blif.printed_is_read.Goals as goal

pub returns : goal.returns
returns c = printed
