use Rattle.ds_text_laws.proofs.WrittenWords.{events_are_read}
use Rattle.ds_text_laws.proofs.astg.events_are_read.Goals as goal

pub returns : goal.returns
returns c = events_are_read
