-- Rows of values read back from their words.
use Rattle.std.specs.Prelude.{◌≡◌, ℕ, ◌+◌, ◌*◌, ◌<◌, ◌≤◌, List, length, slice_index, slice_index_or}
use Rattle.ds_base.specs.Values.{Row}
use Rattle.ds_base.specs.Word.{word_of}
use Rattle.ds_base.specs.declared.value.Value.TheVariants.{Zero}

-- these are the words of the values
abbrev pub IsPacked : Row → List ℕ → Type 0
IsPacked values words = (i : ℕ) → i < length words → slice_index words i ≡ word_of values i

-- the row has values 32 i to 32 i + 31 of these, as far as they go
abbrev pub HasWord : Row → Row → ℕ → Type 0
HasWord values row i = (k : ℕ) → 32 * i ≤ k → k < 32 * i + 32 → k < length values
    → slice_index_or row k Zero ≡ slice_index_or values k Zero
