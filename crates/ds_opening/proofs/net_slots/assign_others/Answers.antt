use Rattle.std.proofs.Common.{◌∙◌, ◌+◌, [], refl}
use Rattle.ds_base.proofs.ListLemmas.{get_or-default}
use Rattle.ds_opening.proofs.NetSlotLemmas.{assigned_more}
use Rattle.ds_opening.proofs.net_slots.assign_others.Goals as goal

pub loop-j-preserved : goal.loop-j-preserved
loop-j-preserved c =
    assigned_more c.args.first c.args.others.now c.args.net_slots.now.items c.loop-j.net_slots.items c.assign_nets.new.net_slots.items
    (c.args.first + c.loop-j.j) c.loop-j.j c.as_slice.result.now c.loop-j.invariant c.loop-j-test.true refl
    (c.as_slice.ensures ∙ (c.index-others-j.is ∙ get_or-default c.args.others.now c.loop-j.j c.index-others-j.result [] c.loop-j-test.true))
    c.assign_nets.ensures
