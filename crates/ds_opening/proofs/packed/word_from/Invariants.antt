use Rattle.std.proofs.Common.{◌≡◌, drop}
use Rattle.ds_base.specs.Word.{number_of_values}
use Rattle.ds_cover.specs.Cover.{values_at}
use Rattle.ds_opening.proofs.packed.word_from.Given as goal

abbrev pub invariant-loop-i : goal.invariant-loop-i
invariant-loop-i l = l.word ≡ number_of_values (drop l.i (values_at l.nets l.these))
