use Rattle.std.proofs.Common.{◌≡◌, ◌<◌, ◌+◌, length}
use Rattle.std.specs.Prelude.{All}
use Rattle.ds_opening.specs.Seen.{AreReadBy}
use Rattle.ds_opening.proofs.reads.reads_of.Given as goal

abbrev pub invariant-loop-own : goal.invariant-loop-own
invariant-loop-own l = record {
  are : AreReadBy l.design l.assigned.net_slots.items (length l.groups + length l.others) l.own l.groups l.reads.items;
  long : length l.seen.items ≡ length l.groups + length l.others;
  unseen : All (λ s. s < l.own + 1) l.seen.items;
}
