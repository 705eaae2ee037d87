use Rattle.std.proofs.Common.{arith}
use Rattle.ds_runner.proofs.SlotLemmas.{next_back, all_back}
use Rattle.ds_runner.proofs.slots.empty_slots.Goals as goal

pub unreachable-requires : goal.unreachable-requires
unreachable-requires c = let r = next_back c.args.key.now.passes.value.items c.loop-slot.passes.items c.loop-slot.slots.items c.pop.new.self.items c.in-Some.slot
    c.in-Some.ensures.items c.loop-slot.invariant.filled in c.in_default-slot.not-Some r.0 r.1

pub returns-clause-back : goal.returns-clause-back
returns-clause-back c = let (none, _) = c.in_default.ensures.cases in
    all_back c.args.key.now.passes.value.items c.loop-slot.passes.items c.loop-slot.slots.items (omega (arith, none)) c.loop-slot.invariant.filled
