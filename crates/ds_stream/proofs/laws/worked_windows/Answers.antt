use Rattle.std.proofs.Common.{refl}
use Rattle.ds_lines.specs.Line.{joins, words_in}
use Rattle.ds_rows.specs.Vector.{has_bits, has_width, row_of}
use Rattle.ds_stream.proofs.WorkedLines.{lines_worked}
use Rattle.ds_stream.proofs.laws.worked_windows.Goals as goal

pub returns : goal.returns
unfolding joins words_in has_bits has_width row_of
returns c = record {
  lines = lines_worked;
  empty = refl;
  blank = refl;
  stream = refl;
  first_fault = refl;
  no_columns = refl;
  first_two = refl;
  next_two = refl;
  behind_a_joined_line = refl;
  fewer = refl;
  none = refl;
  as_long_as_may_be = refl;
  too_long = refl;
  past_the_end = λ line. refl;
}
