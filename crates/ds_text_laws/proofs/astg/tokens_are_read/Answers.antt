use Rattle.ds_text_laws.proofs.Entries.{tokens_are_read}
use Rattle.ds_text_laws.proofs.astg.tokens_are_read.Goals as goal

pub returns : goal.returns
returns c = tokens_are_read
