-- Bits that are picked by the bits of inputs.
use Rattle.std.proofs.Common.{◌≡◌, ◌∙◌, ℕ, zero, suc, ◌+◌, ◌*◌, ◌/◌, ◌%◌, ◌^◌, ◌<◌, List, [], ◌∷◌, length, get_or, set, take, refl, sym, ap, arith, inl, inr, subst}
use Rattle.std.specs.Prelude.{All}
use Rattle.std.specs.Int.{bit_at}
use Rattle.std.specs.Int.RustNames.{bit_and, bit_xor}
use Rattle.std.proofs.lemmas.Bool.{cases_eq}
use Rattle.std.proofs.lemmas.List.{get_or-set_other, get_or-set_same}
use Rattle.std.proofs.lemmas.List.Elements.{All-more}
use Rattle.std.proofs.lemmas.Nat.{shr-shr}
use Rattle.std.proofs.lemmas.Nat.Bits.{bit_at-lt, bit_at_and, bit_at_xor}
use Rattle.ds_base.proofs.ListLemmas.{map_agree}
use Rattle.ds_base.specs.Values.{Row}
use Rattle.ds_base.specs.declared.value.Value.{Value}
use Rattle.ds_base.specs.declared.value.Value.TheVariants.{Zero, One}
use Rattle.ds_cover.specs.Cover.{signed, value_at, values_at}
use Rattle.ds_cover.specs.Kept.{IsQuick, bit_value}
use Rattle.ds_cover.specs.Packed.{PackedCover, bits_by, masks_value, one_bit, packed_value}
use Rattle.ds_cover.specs.declared.entry.Quick.{Quick}
use Rattle.ds_slices.specs.Picked.{IsPackedWord, IsPicked}
use Rattle.ds_slices.specs.Turns.{turn_row}
use Rattle.ds_slices.proofs.TurnBits.{one_bit-value, turns_known, value_in}

-- the first of two words where the choice is zero, the second where it is one
pub chosen_zero : (choice low high k : ℕ) → bit_at choice k ≡ 0 → bit_at (bit_xor low (bit_and (bit_xor low high) choice)) k ≡ bit_at low k
chosen_zero choice low high k is =
    bit_at_xor low (bit_and (bit_xor low high) choice) k
    ∙ omega (arith, bit_at_and (bit_xor low high) choice k, bit_at_xor low high k, bit_at-lt low k, bit_at-lt high k)

pub chosen_one : (choice low high k : ℕ) → bit_at choice k ≡ 1 → bit_at (bit_xor low (bit_and (bit_xor low high) choice)) k ≡ bit_at high k
chosen_one choice low high k is =
    bit_at_xor low (bit_and (bit_xor low high) choice) k
    ∙ omega (arith, bit_at_and (bit_xor low high) choice k, bit_at_xor low high k, bit_at-lt low k, bit_at-lt high k)

-- by one bit
pub by_one : (truth bit r low high : ℕ) → bit < 2 → (bit ≡ 0 → r ≡ low) → (bit ≡ 1 → r ≡ high) → low ≡ bit_at truth 0 → high ≡ bit_at truth 1
    → r ≡ bit_at truth bit
by_one truth zero r low high few zeros ones first second = zeros refl ∙ first
by_one truth (suc zero) r low high few zeros ones first second = ones refl ∙ second
by_one truth (suc (suc bit)) r low high few zeros ones first second = absurd (omega arith)

-- a bit behind others
pub bit_behind : (truth by i : ℕ) → bit_at (truth / 2 ^ by) i ≡ bit_at truth (by + i)
bit_behind truth by i = ap (λ (x : ℕ). x % 2) (shr-shr truth by i)

-- by one bit more
pub by_more : (truth by i bit r low high : ℕ) → bit < 2 → (bit ≡ 0 → r ≡ low) → (bit ≡ 1 → r ≡ high) → low ≡ bit_at truth i
    → high ≡ bit_at (truth / 2 ^ by) i → r ≡ bit_at truth (i + by * bit)
by_more truth by i zero r low high few zeros ones first second = zeros refl ∙ (first ∙ ap (bit_at truth) (let e : i ≡ i + by * 0 = omega arith in e))
by_more truth by i (suc zero) r low high few zeros ones first second =
    ones refl ∙ (second ∙ (bit_behind truth by i ∙ ap (bit_at truth) (let e : by + i ≡ i + by * 1 = omega arith in e)))
by_more truth by i (suc (suc bit)) r low high few zeros ones first second = absurd (omega arith)

-- six nets, one by one
pub six_bits : (f : ℕ → ℕ) (nets : List ℕ) → length nets ≡ 6
    → bits_by f nets ≡ f (get_or nets 0 0) + 2 * f (get_or nets 1 0) + 4 * f (get_or nets 2 0) + 8 * f (get_or nets 3 0) + 16 * f (get_or nets 4 0) + 32 * f (get_or nets 5 0)
six_bits f [] long = absurd (omega arith)
six_bits f (a ∷ []) long = absurd (omega arith)
six_bits f (a ∷ b ∷ []) long = absurd (omega arith)
six_bits f (a ∷ b ∷ c ∷ []) long = absurd (omega arith)
six_bits f (a ∷ b ∷ c ∷ d ∷ []) long = absurd (omega arith)
six_bits f (a ∷ b ∷ c ∷ d ∷ e ∷ []) long = absurd (omega arith)
six_bits f (a ∷ b ∷ c ∷ d ∷ e ∷ g ∷ []) long = omega arith
six_bits f (a ∷ b ∷ c ∷ d ∷ e ∷ g ∷ h ∷ nets) long = absurd (omega arith)

-- the bits of values are those of words
bits_same : (words : List ℕ) (k : ℕ) (nets : List ℕ) → bits_by one_bit (values_at (turn_row words k) nets) ≡ bits_by (λ net. bit_at (get_or words net 0) k) nets
bits_same words k [] = refl
bits_same words k (net ∷ nets) =
    let head : one_bit (value_at (turn_row words k) net) ≡ bit_at (get_or words net 0) k =
    ap one_bit (value_in words k net) ∙ one_bit-value (bit_at (get_or words net 0) k) (bit_at-lt (get_or words net 0) k) in
    let rest = bits_same words k nets in
    omega arith

-- what is picked is the value of the table
pub picked_value : (quick : Quick) (cover : PackedCover) (words : List ℕ) (word : ℕ) → IsQuick quick cover → IsPicked quick words word → IsPackedWord cover words word
picked_value quick cover words word is picked k below =
    ap bit_value (picked k below ∙ ap (bit_at quick.truth) (sym (bits_same words k quick.nets)))
    ∙ is.truth (turn_row words k) (turns_known words k quick.nets)

-- a packed table reads its inputs alone
pub packed_agrees : (cover : PackedCover) (one other : Row) → All (λ net. value_at one net ≡ value_at other net) cover.inputs
    → packed_value cover one ≡ packed_value cover other
packed_agrees cover one other same =
    ap (λ (values : Row). signed cover.on (masks_value values One cover.masks)) (map_agree (value_at one) (value_at other) cover.inputs same)

-- one net more that has its value of a turn
pub nets_more : (words : List ℕ) (turn : ℕ) (these : List ℕ) (i n : ℕ) (nets new : Row) → i < length these → n ≡ get_or these i 0 → n < length nets
    → new ≡ set nets n (bit_value (bit_at (get_or words n 0) turn))
    → All (λ net. value_at nets net ≡ value_at (turn_row words turn) net) (take i these)
    → All (λ net. value_at new net ≡ value_at (turn_row words turn) net) (take (i + 1) these)
nets_more words turn these i n nets new inside at within is before =
    let v : Value = bit_value (bit_at (get_or words n 0) turn) in
    let here : value_at (set nets n v) n ≡ value_at (turn_row words turn) n = get_or-set_same nets n v Zero within ∙ sym (value_in words turn n) in
    let told : (x : ℕ) → value_at nets x ≡ value_at (turn_row words turn) x → value_at (set nets n v) x ≡ value_at (turn_row words turn) x =
    (λ x old. elim (cases_eq x n) [
      | inl e ↦ ap (value_at (set nets n v)) e ∙ (here ∙ ap (value_at (turn_row words turn)) (sym e))
      | inr ne ↦ get_or-set_other nets n x v Zero ne ∙ old
    ]) in
    subst (λ (row : Row). All (λ net. value_at row net ≡ value_at (turn_row words turn) net) (take (i + 1) these)) (sym is)
    (All-more (λ net. value_at (set nets n v) net ≡ value_at (turn_row words turn) net) these i 0 inside
    (λ k d low. told (get_or (take i these) k d) (before k d low))
    (subst (λ (x : ℕ). value_at (set nets n v) x ≡ value_at (turn_row words turn) x) at here))
