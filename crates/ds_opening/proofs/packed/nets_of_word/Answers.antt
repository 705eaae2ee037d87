use Rattle.std.proofs.Common.{◌*◌}
use Rattle.ds_opening.proofs.Packs.{short_part}
use Rattle.ds_opening.proofs.packed.nets_of_word.Goals as goal

pub returns-then-rest-lt32 : goal.returns-then-rest-lt32
returns-then-rest-lt32 c = short_part c.args.these.now (32 * c.args.i) c.if-rest-lt32.true
