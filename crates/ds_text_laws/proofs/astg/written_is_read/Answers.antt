use Rattle.ds_text_laws.proofs.WrittenGraphs.{written_is_read}
use Rattle.ds_text_laws.proofs.astg.written_is_read.Goals as goal

pub returns : goal.returns
returns c = written_is_read
