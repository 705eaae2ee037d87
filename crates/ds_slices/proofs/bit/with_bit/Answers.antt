use Rattle.std.proofs.Common.{◌∙◌, ap, sym, w64}
use Rattle.std.proofs.lemmas.Nat.Bits.{bit_at_set_other, bit_at_set_same}
use Rattle.ds_cover.specs.Packed.{one_bit}
use Rattle.ds_slices.proofs.bit.with_bit.Goals as goal

pub returns-in-One-clause-same : goal.returns-in-One-clause-same
returns-in-One-clause-same c = λ k apart. bit_at_set_other w64 c.args.word c.args.turn c.requires k apart

pub returns-in-One-clause-set : goal.returns-in-One-clause-set
returns-in-One-clause-set c = λ none. bit_at_set_same w64 c.args.word c.args.turn c.requires ∙ ap one_bit (sym c.in-One.is)
