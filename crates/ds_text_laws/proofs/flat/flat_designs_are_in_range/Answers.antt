use Rattle.ds_flat.proofs.FlatRange.{flat_in_range}
use Rattle.ds_text_laws.proofs.flat.flat_designs_are_in_range.Goals as goal

pub returns : goal.returns
returns c = λ models circuit blif is. flat_in_range models blif.parts circuit is
