use Rattle.std.proofs.Common.{◌∙◌, arith}
use Rattle.ds_cover.specs.Cover.{value_at}
use Rattle.ds_settle.proofs.ByIndex.{map_by_index}
use Rattle.ds_settle.proofs.pick.pick_values.Goals as goal

pub returns : goal.returns
returns c = map_by_index (value_at c.args.nets.now) c.args.these.now c.loop-i.into (c.loop-i.invariant.same ∙ c.requires.one_each) (λ k d inside. c.loop-i.invariant.front k d (omega arith))
