use Rattle.std.proofs.Common.{◌≡◌, ◌++◌, ◌+◌, map}
use Rattle.std.specs.List.{range_with_len}
use Rattle.std.specs.Prelude.{vec_capacity, vec_len}
use Rattle.ds_base.specs.Word.{word_of}
use Rattle.ds_cover.specs.Cover.{values_at}
use Rattle.ds_opening.proofs.packed.push_words.Given as goal

abbrev pub invariant-loop-i : goal.invariant-loop-i
invariant-loop-i l = record {
  items : l.into.items ≡ l.fn.into.items ++ map (word_of (values_at l.nets l.these)) (range_with_len 0 l.i);
  long : vec_len l.into ≡ vec_len l.fn.into + l.i;
  room : vec_capacity l.into ≡ vec_capacity l.fn.into;
}
