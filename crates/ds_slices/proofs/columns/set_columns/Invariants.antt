use Rattle.ds_slices.proofs.ColumnWords.{AreColumnWords}
use Rattle.ds_slices.proofs.columns.set_columns.Given as goal

abbrev pub invariant-loop-i : goal.invariant-loop-i
invariant-loop-i l = AreColumnWords l.vectors.rows l.from l.columns l.initial.words l.words l.i
