use Rattle.ds_slices.proofs.TurnBits.{shifted}
use Rattle.ds_slices.proofs.links.later.Goals as goal

pub returns : goal.returns
returns c = shifted c.args.word c.with_bit.result c.args.first c.requires c.with_bit.ensures.same c.with_bit.ensures.set
