use Rattle.ds_demo.proofs.TextSums.{fold_after-append}
use Rattle.ds_demo.proofs.laws.fold_in_pieces.Goals as goal

pub returns : goal.returns
returns c = fold_after-append
