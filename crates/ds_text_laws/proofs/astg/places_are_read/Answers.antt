use Rattle.ds_text_laws.proofs.WrittenWords.{places_are_read}
use Rattle.ds_text_laws.proofs.astg.places_are_read.Goals as goal

pub returns : goal.returns
returns c = places_are_read
