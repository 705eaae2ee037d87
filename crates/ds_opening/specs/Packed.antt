-- Rows of values as words of 32 values, and nets that take their values out of words.
use Rattle.std.specs.Prelude.{◌≡◌, ◌⊎◌, ℕ, ◌+◌, ◌<◌, Bool, cond, List}
use Rattle.std.specs.Prelude.{[], ◌∷◌, ◌++◌, length, map, All, Contains, slice_index_or}
use Rattle.std.specs.List.{range_with_len}
use Rattle.ds_base.specs.Values.{Row}
use Rattle.ds_base.specs.Word.{word_of, count_of_words}
use Rattle.ds_cover.specs.Cover.{value_at, values_at}

-- the words of a row
abbrev pub packed : Row → List ℕ
packed values = map (word_of values) (range_with_len 0 (count_of_words (length values)))

-- of some nodes, one after another, the number and the words of the row that it has on foreseen
-- nets, without nodes whose rows are learnt
abbrev pub packed_rows : (ℕ → Bool) → Row → List (List ℕ) → List ℕ → List ℕ
packed_rows learnt foreseen bits [] = []
packed_rows learnt foreseen bits (node ∷ nodes) =
    cond (learnt node) [] (node ∷ packed (values_at foreseen (slice_index_or bits node [])))
    ++ packed_rows learnt foreseen bits nodes

-- these nets are as foreseen, and so is every net that was so before
abbrev pub Learns : Row → List ℕ → Row → Row → Type 0
Learns foreseen these old new = (net : ℕ)
    → Contains these net ⊎ (value_at old net ≡ value_at foreseen net)
    → value_at new net ≡ value_at foreseen net

-- each net has the value that it had
abbrev pub AreAsBefore : Row → Row → Type 0
AreAsBefore old new = (net : ℕ) → value_at new net ≡ value_at old net

-- the nets of these nodes are as foreseen
abbrev pub AreLearnt : Row → List (List ℕ) → List ℕ → Row → Type 0
AreLearnt foreseen bits nodes new = (node : ℕ) → Contains nodes node
    → values_at new (slice_index_or bits node []) ≡ values_at foreseen (slice_index_or bits node [])

-- these nets have places in a row
abbrev pub AreInside : List ℕ → Row → Type 0
AreInside these row = All (λ net. net < length row) these
