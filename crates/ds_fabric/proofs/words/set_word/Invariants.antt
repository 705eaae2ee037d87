use Rattle.std.proofs.Common.{◌≡◌, ◌<◌, ◌≤◌, ◌+◌, ◌*◌, ℕ, length, slice_index_or, take, drop}
use Rattle.ds_base.specs.Values.{Row}
use Rattle.ds_base.specs.Word.{word_of, number_of_values}
use Rattle.ds_base.specs.declared.value.Value.TheVariants.{Zero}
use Rattle.ds_fabric.proofs.words.set_word.Given as goal

abbrev pub invariant-loop-j : goal.invariant-loop-j
invariant-loop-j l = (length l.row ≡ length l.fn.row)
    × ((k : ℕ) → k < 32 * l.fn.i → slice_index_or l.row k Zero ≡ slice_index_or l.fn.row k Zero)
    × ((values : Row) → length values ≡ length l.fn.row → l.fn.word ≡ word_of values l.fn.i
    → (l.rest ≡ number_of_values (drop l.j (take 32 (drop (32 * l.fn.i) values))))
    × ((k : ℕ) → 32 * l.fn.i ≤ k → k < 32 * l.fn.i + l.j
    → slice_index_or l.row k Zero ≡ slice_index_or values k Zero))
