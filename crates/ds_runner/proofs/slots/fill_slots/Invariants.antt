use Rattle.std.proofs.Common.{◌≡◌, ◌++◌, ◌+◌, Some, map, reverse, length, vec_capacity}
use Rattle.ds_runner.proofs.slots.fill_slots.Given as goal

abbrev pub invariant-loop-pass : goal.invariant-loop-pass
invariant-loop-pass l = (l.slots.items ++ map Some (reverse l.passes.items) ≡ map Some l.fn.passes.items)
    × (length l.slots.items + length l.passes.items ≡ length l.fn.passes.items)
    × (vec_capacity l.slots ≡ vec_capacity l.fn.slots)
    × (vec_capacity l.passes ≡ vec_capacity l.fn.passes)

abbrev pub decreases-loop-pass : goal.decreases-loop-pass
decreases-loop-pass l = length l.passes.items
