use Rattle.std.proofs.Common.{◌≡◌, drop}
use Rattle.ds_cover.specs.Rows.{some_word}
use Rattle.ds_cover.proofs.rows.rows_word.Given as goal

abbrev pub invariant-loop-k : goal.invariant-loop-k
invariant-loop-k l = l.word ≡ some_word l.ones l.zeros (drop l.k l.masks)
