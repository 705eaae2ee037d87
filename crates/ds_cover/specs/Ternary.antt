-- The values of a table of up to three inputs for all rows of three values, as one word.
use Rattle.std.specs.Prelude.{◌≡◌, ℕ, ◌*◌, ◌<◌, ◌/◌, ◌%◌, ◌^◌, ◌==◌, Bool, List, [], ◌∷◌}
use Rattle.std.specs.Prelude.{if◌then◌else◌}
use Rattle.std.specs.Int.RustNames.{bit_and, bit_or, bit_xor}
use Rattle.ds_base.specs.Values.{Row}
use Rattle.ds_base.specs.declared.value.Value.{Value}
use Rattle.ds_base.specs.declared.value.Value.TheVariants.{Zero, One, Unknown}
use Rattle.ds_cover.specs.Cover.{signed}
use Rattle.ds_cover.specs.Kept.{singles_value}
use Rattle.ds_cover.specs.Packed.{words_of_values}
use Rattle.ds_cover.specs.declared.mask.Mask.{Mask}

-- the value of a code
abbrev pub code_value : ℕ → Value
code_value code = if code == 0 then Zero else (if code == 1 then One else Unknown)

-- the three values of a place
abbrev pub three_at : ℕ → Row
three_at place = code_value (place % 3) ∷ code_value (place / 3 % 3) ∷ code_value (place / 9) ∷ []

-- the value of a table of single masks there
abbrev pub three_value_at : List Mask → Bool → ℕ → Value
three_value_at masks on place = signed on (singles_value masks (words_of_values (three_at place)))

-- the values of all 27 places, two bits each
abbrev pub IsWordOf : List Mask → Bool → ℕ → Type 0
IsWordOf masks on word = (place : ℕ) → place < 27
    → code_value (word / 2 ^ (2 * place) % 4) ≡ three_value_at masks on place

-- codes of values out of two bits each, of which the lower says that it is not zero, and the upper
-- that it is one; or of their inverses
abbrev pub coded_word : Bool → ℕ → ℕ
coded_word on word =
    let sure = bit_and word 6004799503160661 in
    let ones = if on then bit_and (word / 2) 6004799503160661
    else bit_xor sure 6004799503160661 in
    bit_or ones (bit_and (bit_xor (2 * sure) word) 12009599006321322)
