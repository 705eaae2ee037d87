use Rattle.std.proofs.Common.{refl}
use Rattle.ds_demo.specs.Fold.{sum_from, fold_of}
use Rattle.ds_demo.proofs.laws.sums_are_worked.Goals as goal

pub returns : goal.returns
unfolding sum_from fold_of
returns c = record { line = refl; trace = refl }
