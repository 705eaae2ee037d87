use Rattle.std.proofs.Common.{◌≡◌, ◌++◌, ◌+◌, take}
use Rattle.std.specs.Prelude.{vec_capacity, vec_len}
use Rattle.ds_opening.proofs.packed.push_all.Given as goal

abbrev pub invariant-loop-word : goal.invariant-loop-word
invariant-loop-word l = record {
  items : l.into.items ≡ l.fn.into.items ++ take l.word-index l.words;
  long : vec_len l.into ≡ vec_len l.fn.into + l.word-index;
  room : vec_capacity l.into ≡ vec_capacity l.fn.into;
}
