use Rattle.std.proofs.Common.{◌≡◌, ◌<◌, ◌*◌, ℕ, length, slice_index_or}
use Rattle.ds_base.specs.Values.{Row}
use Rattle.ds_base.specs.declared.value.Value.TheVariants.{Zero}
use Rattle.ds_fabric.specs.Unpacked.{IsPacked}
use Rattle.ds_fabric.proofs.words.unpack.Given as goal

abbrev pub invariant-loop-i : goal.invariant-loop-i
invariant-loop-i l = (length l.row ≡ length l.fn.row)
    × ((values : Row) → length values ≡ length l.fn.row → IsPacked values l.fn.words
    → (k : ℕ) → k < 32 * l.i → k < length values
    → slice_index_or l.row k Zero ≡ slice_index_or values k Zero)
