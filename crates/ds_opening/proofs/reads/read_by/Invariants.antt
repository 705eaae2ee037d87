use Rattle.std.proofs.Common.{◌≡◌, length, take}
use Rattle.ds_opening.specs.Seen.{AreAt, AreSeen}
use Rattle.ds_opening.proofs.reads.read_by.Given as goal

abbrev pub invariant-loop-table : goal.invariant-loop-table
invariant-loop-table l = record {
  at : AreAt l.assigned.design.now l.assigned.net_slots.items l.own l.list (take l.table-index l.tables);
  seen : AreSeen l.own l.seen.items l.list;
  same : length l.seen.items ≡ length l.fn.seen.items;
}
