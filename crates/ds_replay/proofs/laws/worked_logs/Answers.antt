use Rattle.std.proofs.Common.{refl}
use Rattle.ds_lines.specs.Line.{joins, words_in}
use Rattle.ds_replay.proofs.laws.worked_logs.Goals as goal

pub returns : goal.returns
unfolding joins words_in
returns c = record {
  fires = refl;
  empty = refl;
  behind_firings = refl;
  firings_again = refl;
  three_words = refl;
  long_number = refl;
  no_event = refl;
  other_turn = refl;
  too_often = refl;
  no_token = refl;
  words_first = refl;
  dummy = refl;
  before_dummy = refl;
  signed_dummy = refl;
  turn_first = refl;
}
