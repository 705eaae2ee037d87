use Rattle.std.proofs.Common.{◌+◌}
use Rattle.ds_cover.specs.Cover.{value_at}
use Rattle.ds_design.specs.Run.{row_at}
use Rattle.ds_slices.proofs.TurnBits.{AreBits}
use Rattle.ds_slices.proofs.columns.column_word.Given as goal

abbrev pub invariant-loop-turn : goal.invariant-loop-turn
invariant-loop-turn l = AreBits (λ k. value_at (row_at l.vectors.rows (l.from + k)) l.column) l.turn l.word
