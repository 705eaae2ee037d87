use Rattle.std.proofs.Common.{◌≡◌, ◌≤◌, ◌*◌, vec_capacity}
use Rattle.ds_fabric.specs.Separated.{words_until}
use Rattle.ds_fabric.proofs.histories.own_words.Given as goal

abbrev pub invariant-loop-turn : goal.invariant-loop-turn
invariant-loop-turn l = record {
  items : l.own.items ≡ words_until l.words l.history l.turn;
  room : l.limit * l.history.stride ≤ vec_capacity l.own;
}
