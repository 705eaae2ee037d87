-- Tables of up to six inputs by one word, and nets after some of them are set.
use Rattle.std.specs.Prelude.{◌≡◌, ℕ, ◌+◌, ◌*◌, ◌-◌, ◌<◌, ◌/◌, ◌%◌, ◌^◌, ◌==◌, ◌++◌, List, []}
use Rattle.std.specs.Prelude.{◌∷◌, All, length}
use Rattle.std.specs.Prelude.{drop, if◌then◌else◌}
use Rattle.std.specs.List.{range_with_len}
use Rattle.std.specs.Prelude.{map, take, slice_index_or, slice_set}
use Rattle.std.specs.Int.{bit_at}
use Rattle.ds_base.specs.Values.{AreKnown, Row}
use Rattle.ds_base.specs.Word.{code_of}
use Rattle.ds_base.specs.declared.value.Value.{Value}
use Rattle.ds_base.specs.declared.value.Value.TheVariants.{Zero}
use Rattle.ds_cover.specs.Cover.{values_at}
use Rattle.ds_cover.specs.Packed.{bits_by, packed_value}
use Rattle.ds_cover.specs.Bank.{Driven}
use Rattle.ds_cover.specs.Kept.{bit_value}
use Rattle.ds_cover.specs.Ternary.{code_value}
use Rattle.ds_cover.specs.declared.entry.Quick.{Quick}

-- a table by one word: its inputs, its values, and the net that it drives
pub record Small : Type 0 where
  pub nets : List ℕ
  pub truth : ℕ
  pub output : ℕ

-- the bit of the word that the values of the inputs number
abbrev pub small_value : Small → Row → Value
small_value small nets = bit_value
    (bit_at small.truth (bits_by code_of (values_at nets small.nets)))

-- the inputs and the output are there
pub record IsSmallWithin (small : Small) (nets : Row) : Type 0 where
  pub inputs : All (λ net. net < length nets) small.nets
  pub output : small.output < length nets

-- the first inputs of a word for six, and the two ends of it, where its last input has one value
-- only
pub record IsFolded (width : ℕ) (quick : Quick) (small : Small) : Type 0 where
  pub nets : small.nets ≡ take width quick.nets
  pub truth : small.truth ≡ quick.truth % 2 ^ (2 ^ (width - 1)) + 2 ^ (2 ^ (width - 1)) *
      (quick.truth / 2 ^ (64 - 2 ^ (width - 1)))
  pub output : small.output ≡ quick.output

-- the nets after such tables are set one after another
abbrev pub after_smalls : List Small → Row → Row
after_smalls [] nets = nets
after_smalls (small ∷ smalls) nets =
    after_smalls smalls (slice_set nets small.output (small_value small nets))

-- it is this table, where the inputs are known
pub record StandsFor (small : Small) (driven : Driven) : Type 0 where
  pub within : (count : ℕ) → All (λ net. net < count) driven.cover.inputs
      → All (λ net. net < count) small.nets
  pub value : (nets : Row) → AreKnown (values_at nets driven.cover.inputs)
      → small_value small nets ≡ packed_value driven.cover nets
  pub drives : small.output ≡ driven.output

-- the place of some values among all rows of so many
abbrev pub ternary_place : Row → ℕ
ternary_place [] = 0
ternary_place (value ∷ values) = code_of value + 3 * ternary_place values

-- the value that a word of 27 has there, in two bits
abbrev pub value_in_27 : ℕ → ℕ → Value
value_in_27 word place = code_value (word / 2 ^ (2 * place) % 4)

-- the places of all rows of two values, the last one repeated, among those of three
abbrev pub nine_places : List ℕ
nine_places = 0 ∷ 1 ∷ 2 ∷ 12 ∷ 13 ∷ 14 ∷ 24 ∷ 25 ∷ 26 ∷ []

-- the values of a word of 27 for all rows of two or three values
abbrev pub values_of_word : ℕ → ℕ → Row
values_of_word width word =
    map (value_in_27 word) (if width == 2 then nine_places else range_with_len 0 27)

-- a table by what it is for the values of its inputs, by their places
pub record Worded : Type 0 where
  pub small : Small
  pub values : Row

-- its value
abbrev pub worded_value : Worded → Row → Value
worded_value worded nets =
    slice_index_or worded.values (ternary_place (values_at nets worded.small.nets)) Zero

-- by small table and words
abbrev pub worded_by : {A W : Type 0} → (A → Small) → (W → Row) → A → W → Worded
worded_by small values table words = record { small = small table; values = values words }

-- the items from one place on, up to another
abbrev pub part_of : {A : Type 0} → ℕ → ℕ → List A → List A
part_of first end items = take (end - first) (drop first items)

-- tables with what they are for all values
abbrev pub paired : {A W : Type 0} → (A → W → Worded) → List A → List W → List Worded
paired worded [] words = []
paired worded (table ∷ tables) [] = []
paired worded (table ∷ tables) (word ∷ words) = worded table word ∷ paired worded tables words

-- tables of one size, and what those of up to three inputs are for all values
pub record Shelved : Type 0 where
  pub smalls : List Small
  pub worded : List Worded

-- none
abbrev pub no_shelf : Shelved
no_shelf = record { smalls = []; worded = [] }

-- the table of a word for six inputs is added to those of its size
pub record IsShelved (quick : Quick) (width : ℕ) (before after : Shelved) (first : ℕ) :
    Type 0 where
  pub small : Small
  pub folded : IsFolded width quick small
  pub first_is : first ≡ length before.smalls
  pub few : first < 2 ^ 63
  pub smalls_are : after.smalls ≡ before.smalls ++ small ∷ []

-- and with it what it is for all values, out of a word of 27
pub record IsWordShelved (quick : Quick) (width word : ℕ) (before after : Shelved) (first : ℕ) :
    Type 0 where
  pub shelved : IsShelved quick width before after first
  pub first_is : first ≡ length before.worded
  pub worded_are : after.worded ≡ before.worded
      ++ record { small = shelved.small; values = values_of_word width word } ∷ []

-- the nets after such tables are set one after another
abbrev pub after_worded : List Worded → Row → Row
after_worded [] nets = nets
after_worded (worded ∷ rest) nets =
    after_worded rest (slice_set nets worded.small.output (worded_value worded nets))

-- it is this table, whatever its inputs are
pub record WordsFor (worded : Worded) (driven : Driven) : Type 0 where
  pub value : (nets : Row) → worded_value worded nets ≡ packed_value driven.cover nets
  pub drives : worded.small.output ≡ driven.output
