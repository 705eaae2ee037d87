use Rattle.std.proofs.Common.{◌≡◌, drop}
use Rattle.ds_cover.specs.Cover.{values_at}
use Rattle.ds_cover.specs.Packed.{bits_by, one_bit, unknown_bit, zero_bit}
use Rattle.ds_cover.proofs.value_word.word_from.Given as goal

abbrev pub invariant-loop-i : goal.invariant-loop-i
invariant-loop-i l = record {
  ones_are : l.ones ≡ bits_by one_bit (drop l.i (values_at l.nets l.inputs));
  zeros_are : l.zeros ≡ bits_by zero_bit (drop l.i (values_at l.nets l.inputs));
  unknown_are : l.unknown ≡ bits_by unknown_bit (drop l.i (values_at l.nets l.inputs));
}
