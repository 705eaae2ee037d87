use Rattle.ds_text_laws.proofs.GraphTextLines.{written_text_is_read}
use Rattle.ds_text_laws.proofs.astg.written_text_is_read.Goals as goal

pub returns : goal.returns
returns c = written_text_is_read
