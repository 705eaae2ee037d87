use Rattle.ds_text_laws.proofs.Entries.{ends_are_read}
use Rattle.ds_text_laws.proofs.astg.ends_are_read.Goals as goal

pub returns : goal.returns
returns c = ends_are_read
