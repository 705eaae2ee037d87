use Rattle.ds_demo.proofs.TextSums.{sum_of_text}
use Rattle.ds_demo.proofs.laws.fold_of_text.Goals as goal

pub returns : goal.returns
returns c = sum_of_text
