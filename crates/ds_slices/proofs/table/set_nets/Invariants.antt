use Rattle.std.proofs.Common.{◌≡◌, length, take}
use Rattle.std.specs.Prelude.{All}
use Rattle.ds_cover.specs.Cover.{value_at}
use Rattle.ds_slices.specs.Turns.{turn_row}
use Rattle.ds_slices.proofs.table.set_nets.Given as goal

abbrev pub invariant-loop-net : goal.invariant-loop-net
invariant-loop-net l = record {
  same : length l.nets ≡ length l.initial.nets;
  told : All (λ net. value_at l.nets net ≡ value_at (turn_row l.words l.turn) net) (take l.net-index l.these);
}
