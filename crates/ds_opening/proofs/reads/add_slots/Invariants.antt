use Rattle.std.proofs.Common.{length, take}
use Rattle.ds_opening.specs.Seen.{AreSearched}
use Rattle.ds_opening.proofs.reads.add_slots.Given as goal

abbrev pub invariant-loop-net : goal.invariant-loop-net
invariant-loop-net l =
    AreSearched l.net_slots l.own (length l.fn.seen.items) l.fn.list (take l.net-index l.nets) l.seen.items l.list
