use Rattle.std.proofs.Common.{◌≡◌, length}
use Rattle.ds_cover.specs.Bank.{driven_at}
use Rattle.ds_cover.specs.Packed.{packed_value}
use Rattle.ds_slices.specs.Turns.{turn_row}
use Rattle.ds_slices.proofs.TurnBits.{AreBits}
use Rattle.ds_slices.proofs.table.word_by_turns.Given as goal

abbrev pub invariant-loop-turn : goal.invariant-loop-turn
invariant-loop-turn l = record {
  same : length l.nets ≡ length l.initial.nets;
  bits : AreBits (λ k. packed_value (driven_at l.bank l.table).cover (turn_row l.words k)) l.turn l.word;
}
