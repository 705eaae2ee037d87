-- How a bank keeps its tables: all inputs in one list, all masks in another, and of each table
-- where its own ones stand; of a table of few inputs also its values as one word.
use Rattle.std.specs.Prelude.{◌≡◌, ◌⊎◌, ℕ, ◌+◌, ◌<◌, ◌≤◌, ◌==◌, Bool, true, List, [], ◌∷◌, ◌++◌}
use Rattle.std.specs.Prelude.{All, length, map, take, drop, if◌then◌else◌, slice_index}
use Rattle.std.specs.Prelude.{slice_index_or, min, ◌-◌}
use Rattle.std.specs.Int.{bit_at}
use Rattle.ds_base.specs.Values.{AreKnown, Row, either}
use Rattle.ds_base.specs.declared.value.Value.{Value}
use Rattle.ds_base.specs.declared.value.Value.TheVariants.{Zero, One}
use Rattle.ds_cover.specs.Cover.{Cover, matches, signed, some_match, values_at}
use Rattle.ds_cover.specs.Packed.{PackedCover, bits_by, mask_value, masks_value, one_bit}
use Rattle.ds_cover.specs.Packed.{packed_value, words_of_values}
use Rattle.ds_cover.specs.Bank.{Driven, IsDriven}
use Rattle.ds_cover.specs.declared.mask.Mask.{Mask}
use Rattle.ds_cover.specs.declared.value_word.ValueWord.{ValueWord}
use Rattle.ds_cover.specs.declared.entry.Quick.{Quick}
use Rattle.ds_cover.specs.declared.entry.TableSpan.{TableSpan}

-- the value of a bit
abbrev pub bit_value : ℕ → Value
bit_value bit = if bit == 0 then Zero else One

-- the table that stands there
abbrev pub driven_in : List ℕ → List Mask → TableSpan → Driven
driven_in inputs masks span = record {
  cover = record {
    inputs = take span.inputs (drop span.first_input inputs);
    masks = take span.masks (drop span.first_mask masks);
    on = span.on;
  };
  output = span.output;
}

-- the nets from the third on are the same
abbrev pub AreThree : List ℕ → Type 0
AreThree nets = (slice_index nets 3 ≡ slice_index nets 2)
    × (slice_index nets 4 ≡ slice_index nets 2) × (slice_index nets 5 ≡ slice_index nets 2)

-- a row of one mask
pub record IsSingle (mask : Mask) : Type 0 where
  pub starts : mask.first ≡ 0
  pub ends : mask.last ≡ true

-- the inputs, the last one repeated up to six
abbrev pub six_nets : List ℕ → List ℕ
six_nets inputs = map (λ i. slice_index inputs (min (length inputs - 1) i))
    (0 ∷ 1 ∷ 2 ∷ 3 ∷ 4 ∷ 5 ∷ [])

-- the six nets are inputs of the table, and where they are known, the word has its value at the bit
-- that they number
pub record IsQuick (quick : Quick) (cover : PackedCover) : Type 0 where
  pub within : (nets : Row) → All (λ net. net < length nets) cover.inputs
      → All (λ net. net < length nets) quick.nets
  pub truth : (nets : Row) → AreKnown (values_at nets quick.nets)
      → bit_value (bit_at quick.truth (bits_by one_bit (values_at nets quick.nets)))
      ≡ packed_value cover nets
  pub three : quick.at_most_three ≡ true → AreThree quick.nets
  pub nets_are : quick.nets ≡ six_nets cover.inputs
  pub some : 0 < length cover.inputs
  pub most : length cover.inputs ≤ 6
  pub single : All IsSingle cover.masks
  pub reads : (values : Row) → masks_value values One cover.masks
      ≡ masks_value (take (length cover.inputs) values) One cover.masks

-- a table that is kept
pub record IsTableKept (inputs : List ℕ) (masks : List Mask) (span : TableSpan) (quick : Quick)
    : Type 0 where
  pub inputs_in : span.first_input + span.inputs ≤ length inputs
  pub masks_in : span.first_mask + span.masks ≤ length masks
  pub fit : All (λ mask. mask.first ≤ span.inputs) (driven_in inputs masks span).cover.masks
  pub drives : quick.output ≡ span.output
  pub is_quick : quick.few ≡ true → IsQuick quick (driven_in inputs masks span).cover

-- what stood in a list stands there still, and more may stand behind it
pub record IsPrefix {A : Type 0} (before after : List A) : Type 0 where
  pub more : List A
  pub is : after ≡ before ++ more

-- all tables are kept
pub record AreKept (inputs : List ℕ) (masks : List Mask) (spans : List TableSpan)
    (quicks : List Quick) : Type 0 where
  pub one_each : length quicks ≡ length spans
  pub kept : (k : ℕ) (d : TableSpan) (e : Quick) → k < length spans
      → IsTableKept inputs masks (slice_index_or spans k d) (slice_index_or quicks k e)

-- masks of rows of this many characters
abbrev pub AreFit : ℕ → List Mask → Type 0
AreFit width masks = All (λ mask. (mask.first ≤ width) × (width ≤ 64 → IsSingle mask)) masks

-- the first characters of a row are added as masks that do not end it
pub record IsRowBegun (before : List Mask) (row : List ℕ) (first : ℕ)
    (after : List Mask) : Type 0 where
  pub added : List Mask
  pub is : after ≡ before ++ added
  pub starts : (first ≡ 0) ⊎ (64 < length row)
  pub within : first ≤ length row
  pub fit : AreFit (length row) added
  pub value : (values : Row) (more : List Mask)
      → masks_value values One (added ++ more)
      ≡ masks_value values (matches (take first row) values) more

-- rows are added
pub record AddsRows (before : List Mask) (width : ℕ) (rows : List (List ℕ))
    (after : List Mask) : Type 0 where
  pub added : List Mask
  pub is : after ≡ before ++ added
  pub fit : AreFit width added
  pub value : (values : Row) (more : List Mask)
      → masks_value values One (added ++ more)
      ≡ either (some_match rows values) (masks_value values One more)

-- whether some row matches, of rows that are one mask each
abbrev pub singles_value : List Mask → ValueWord → Value
singles_value [] word = Zero
singles_value (mask ∷ masks) word = either (mask_value mask word) (singles_value masks word)

-- the values of all rows of six known values, one a bit
abbrev pub IsTruth : List Mask → Bool → ℕ → Type 0
IsTruth masks on truth = (values : Row) → length values ≡ 6 → AreKnown values
    → bit_value (bit_at truth (bits_by one_bit values))
    ≡ signed on (singles_value masks (words_of_values values))

-- a table is added
pub record IsAdded (inputs : List ℕ) (masks : List Mask) (cover : Cover) (output : ℕ)
    (inputs' : List ℕ) (masks' : List Mask) (span : TableSpan) (quick : Quick) : Type 0 where
  pub more_inputs : List ℕ
  pub more_masks : List Mask
  pub inputs_are : inputs' ≡ inputs ++ more_inputs
  pub masks_are : masks' ≡ masks ++ more_masks
  pub kept : IsTableKept inputs' masks' span quick
  pub stands : IsDriven (driven_in inputs' masks' span) cover output

-- the value by the word
abbrev pub quick_bit : Quick → Row → Value
quick_bit quick nets = bit_value (bit_at quick.truth (bits_by one_bit (values_at nets quick.nets)))
