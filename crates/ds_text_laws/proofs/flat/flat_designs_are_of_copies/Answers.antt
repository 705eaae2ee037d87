use Rattle.ds_text_laws.proofs.InCopies.{flat_of_copies}
use Rattle.ds_text_laws.proofs.flat.flat_designs_are_of_copies.Goals as goal

pub returns : goal.returns
returns c = flat_of_copies
