use Rattle.std.proofs.Common.{◌∙◌, ap}
use Rattle.std.proofs.lemmas.Nat.Bits.{shr_and_one}
use Rattle.ds_cover.specs.Kept.{bit_value}
use Rattle.ds_slices.proofs.bit.bit_of.Goals as goal

pub returns : goal.returns
returns c = c.value_of_bit.ensures ∙ ap bit_value (shr_and_one c.args.word c.args.turn)
