-- Words of tables.
use Rattle.std.specs.Prelude.{◌≡◌, ℕ, ◌<◌, List, slice_index}
use Rattle.std.specs.Int.{bit_at}
use Rattle.ds_cover.specs.Cover.{Cover, value_of}
use Rattle.ds_cover.specs.Kept.{bit_value}
use Rattle.ds_cover.specs.Packed.{PackedCover, bits_by, packed_value}
use Rattle.ds_cover.specs.declared.entry.Quick.{Quick}
use Rattle.ds_slices.specs.Turns.{turn_row}

-- in each turn the bit of a table's word that its inputs number
abbrev pub IsPicked : Quick → List ℕ → ℕ → Type 0
IsPicked quick words word = (k : ℕ) → k < 64 → bit_at word k
    ≡ bit_at quick.truth (bits_by (λ net. bit_at (slice_index words net) k) quick.nets)

-- in each turn the value of a packed table
abbrev pub IsPackedWord : PackedCover → List ℕ → ℕ → Type 0
IsPackedWord cover words word = (k : ℕ) → k < 64
    → bit_value (bit_at word k) ≡ packed_value cover (turn_row words k)

-- in each turn the value of a table
abbrev pub IsTableWord : Cover → List ℕ → ℕ → Type 0
IsTableWord cover words word = (k : ℕ) → k < 64
    → bit_value (bit_at word k) ≡ value_of cover (turn_row words k)
