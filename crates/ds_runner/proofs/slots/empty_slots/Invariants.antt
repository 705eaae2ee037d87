use Rattle.std.proofs.Common.{◌≡◌, ◌++◌, ◌+◌, Some, map, reverse, length, vec_capacity}
use Rattle.ds_runner.proofs.slots.empty_slots.Given as goal

abbrev pub invariant-loop-slot : goal.invariant-loop-slot
invariant-loop-slot l = record {
  filled : map Some l.passes.items ++ reverse l.slots.items ≡ map Some l.fn.key.passes.value.items;
  size : length l.passes.items + length l.slots.items ≡ length l.fn.slots.items;
  room : vec_capacity l.passes ≡ vec_capacity l.fn.passes;
}

abbrev pub decreases-loop-slot : goal.decreases-loop-slot
decreases-loop-slot l = length l.slots.items
