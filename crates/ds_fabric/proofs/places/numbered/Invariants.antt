use Rattle.std.proofs.Common.{◌≡◌, ◌<◌, ◌+◌, ℕ, length, slice_index}
use Rattle.ds_fabric.proofs.places.numbered.Given as goal

abbrev pub invariant-loop-i : goal.invariant-loop-i
invariant-loop-i l = (length l.places.items ≡ l.i)
    × ((k : ℕ) → k < l.i → slice_index l.places.items k ≡ k + 1)
