use Rattle.std.proofs.Common.{◌≡◌, ◌<◌, ℕ}
use Rattle.std.specs.Prelude.{false, slice_index, slice_index_or, true}
use Rattle.ds_opening.proofs.opening.have_stayed.Given as goal

abbrev pub invariant-loop-slot : goal.invariant-loop-slot
invariant-loop-slot l = (k d : ℕ) → k < l.slot-index
    → (slice_index l.scratch.turns (slice_index_or l.slots k d) ≡ l.turn)
    × (slice_index_or l.scratch.stayed (slice_index_or l.slots k d) false ≡ true)
