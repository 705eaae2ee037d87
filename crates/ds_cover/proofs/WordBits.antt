-- What a word of rows has at a place: a bit that is read of the value of the rows there.
use Rattle.std.proofs.Common.{◌≡◌, ℕ, zero, suc, ◌+◌, ◌-◌, ◌*◌, ◌^◌, ◌<◌, ◌≤◌, ◌/◌, ◌%◌, ◌==◌, Bool, if◌then◌else◌, min, max, List, [], ◌∷◌, length, drop, get_or, refl, ap, arith, sym, ◌∙◌, inl, inr}
use Rattle.std.specs.Int.{bit_at}
use Rattle.std.specs.Int.RustNames.{bit_and, bit_or}
use Rattle.std.proofs.lemmas.Bool.Decides.{eqb_tells}
use Rattle.std.proofs.Math.Seq.{drop-cons}
use Rattle.std.proofs.lemmas.Nat.{shr-shr}
use Rattle.std.proofs.lemmas.Nat.Bits.{bit_at-zero, bit_at_and, bit_at_ones, bit_at_or}
use Rattle.ds_base.specs.Values.{Row, both, either, inverse}
use Rattle.ds_base.specs.declared.value.Value.{Value}
use Rattle.ds_base.specs.declared.value.Value.TheVariants.{Zero, One, Unknown}
use Rattle.ds_cover.specs.Kept.{singles_value}
use Rattle.ds_cover.specs.Packed.{bits_by, mask_value, one_bit, unknown_bit, verdict, words_of_values, zero_bit}
use Rattle.ds_cover.specs.Rows.{asked_word, kept_word, row_word, some_word}
use Rattle.ds_cover.specs.declared.mask.Mask.{Mask}
use Rattle.ds_cover.proofs.Bits.{against_cons, doubt_cons, one_bit-few, unknown_bit-few, zero_bit-few}
use Rattle.ds_cover.proofs.Masks.{head, none_there, verdict_cons}

-- whether a value is not zero
abbrev pub some_bit : Value → ℕ
some_bit Zero = 0
some_bit One = 1
some_bit Unknown = 1

-- a bit that is read of a value, so that bits meet as values do
pub record IsReading (read : Value → ℕ) : Type 0 where
  pub zero_is : read Zero ≡ 0
  pub one_is : read One ≡ 1
  pub both_is : (a b : Value) → read (both a b) ≡ min (read a) (read b)
  pub either_is : (a b : Value) → read (either a b) ≡ max (read b) (read a)

some_both : (a b : Value) → some_bit (both a b) ≡ min (some_bit a) (some_bit b)
some_both Zero Zero = refl
some_both Zero One = refl
some_both Zero Unknown = refl
some_both One Zero = refl
some_both One One = refl
some_both One Unknown = refl
some_both Unknown Zero = refl
some_both Unknown One = refl
some_both Unknown Unknown = refl

some_either : (a b : Value) → some_bit (either a b) ≡ max (some_bit b) (some_bit a)
some_either Zero Zero = refl
some_either Zero One = refl
some_either Zero Unknown = refl
some_either One Zero = refl
some_either One One = refl
some_either One Unknown = refl
some_either Unknown Zero = refl
some_either Unknown One = refl
some_either Unknown Unknown = refl

one_both : (a b : Value) → one_bit (both a b) ≡ min (one_bit a) (one_bit b)
one_both Zero Zero = refl
one_both Zero One = refl
one_both Zero Unknown = refl
one_both One Zero = refl
one_both One One = refl
one_both One Unknown = refl
one_both Unknown Zero = refl
one_both Unknown One = refl
one_both Unknown Unknown = refl

one_either : (a b : Value) → one_bit (either a b) ≡ max (one_bit b) (one_bit a)
one_either Zero Zero = refl
one_either Zero One = refl
one_either Zero Unknown = refl
one_either One Zero = refl
one_either One One = refl
one_either One Unknown = refl
one_either Unknown Zero = refl
one_either Unknown One = refl
one_either Unknown Unknown = refl

pub some_reading : IsReading some_bit
some_reading = record { zero_is = refl; one_is = refl; both_is = some_both; either_is = some_either }

pub one_reading : IsReading one_bit
one_reading = record { zero_is = refl; one_is = refl; both_is = one_both; either_is = one_either }

-- of each input the words have the bit of its value, and of the inverse
abbrev pub AreRead : (Value → ℕ) → List ℕ → List ℕ → Row → ℕ → Type 0
AreRead read [] [] [] place = Unit {0}
AreRead read (o ∷ ones) (z ∷ zeros) (v ∷ values) place =
    (bit_at o place ≡ read v) × (bit_at z place ≡ read (inverse v)) × AreRead read ones zeros values place
AreRead read ones zeros values place = ⊥

-- what a bit asks of a value
abbrev asked_of : ℕ → Value → Value
asked_of needs v = if needs == 0 then One else v

head_is : (a b : ℕ) → a ≤ 1 → b ≤ 1 → (v : Value) → both (asked_of a v) (asked_of b (inverse v)) ≡ head a b (zero_bit v) (one_bit v) (unknown_bit v)
head_is zero zero p q Zero = refl
head_is zero zero p q One = refl
head_is zero zero p q Unknown = refl
head_is zero (suc zero) p q Zero = refl
head_is zero (suc zero) p q One = refl
head_is zero (suc zero) p q Unknown = refl
head_is (suc zero) zero p q Zero = refl
head_is (suc zero) zero p q One = refl
head_is (suc zero) zero p q Unknown = refl
head_is (suc zero) (suc zero) p q Zero = refl
head_is (suc zero) (suc zero) p q One = refl
head_is (suc zero) (suc zero) p q Unknown = refl
head_is (suc (suc a)) b p q v = absurd (omega arith)
head_is zero (suc (suc b)) p q v = absurd (omega arith)
head_is (suc zero) (suc (suc b)) p q v = absurd (omega arith)

-- four bits that meet in pairs
four_meet : (a b c d : ℕ) → min (min a b) (min c d) ≡ min (min b d) (min a c)
four_meet a b c d = omega arith

module _ (read : Value → ℕ) (reading : IsReading read) (place : ℕ) (low : place < 64) where
  kept_at : (needs word : ℕ) (v : Value) → bit_at word place ≡ read v → bit_at (kept_word needs word) place ≡ read (asked_of (needs % 2) v)
  kept_at needs word v is = elim (eqb_tells (needs % 2) 0) [
    | inl (here, e) ↦ ap (λ (b : Bool). bit_at (if b then 18446744073709551615 else word) place) here
        ∙ (bit_at_ones 64 place low ∙ (sym reading.one_is ∙ ap (λ (b : Bool). read (if b then One else v)) (sym here)))
    | inr (other, ne) ↦ ap (λ (b : Bool). bit_at (if b then 18446744073709551615 else word) place) other
        ∙ (is ∙ ap (λ (b : Bool). read (if b then One else v)) (sym other))
  ]

  -- what two words of bits ask of some values
  row_at : (ones zeros : List ℕ) (values : Row) (x y : ℕ) → AreRead read ones zeros values place
      → bit_at (bit_and (asked_word ones x) (asked_word zeros y)) place
      ≡ read (verdict (bit_or (bit_and x (bits_by zero_bit values)) (bit_and y (bits_by one_bit values))) (bit_and (bit_or x y) (bits_by unknown_bit values)))
  row_at [] [] [] x y are =
      bit_at_and 18446744073709551615 18446744073709551615 place
      ∙ (let e = bit_at_ones 64 place low in let m : min (bit_at 18446744073709551615 place) (bit_at 18446744073709551615 place) ≡ 1 = omega arith in m)
      ∙ (sym reading.one_is ∙ ap read (sym (none_there x y)))
  row_at (o ∷ ones) (z ∷ zeros) (v ∷ values) x y (here, there, rest) =
      let a = x % 2 in
      let b = y % 2 in
      let p : a ≤ 1 = omega arith in
      let q : b ≤ 1 = omega arith in
      let ex : a + 2 * (x / 2) ≡ x = omega arith in
      let ey : b + 2 * (y / 2) ≡ y = omega arith in
      let zs = bits_by zero_bit values in
      let os = bits_by one_bit values in
      let us = bits_by unknown_bit values in
      let low_part = kept_at x o v here in
      let high_part = kept_at y z (inverse v) there in
      let more = row_at ones zeros values (x / 2) (y / 2) rest in
      let split = bit_at_and (asked_word ones (x / 2)) (asked_word zeros (y / 2)) place in
      let whole : verdict (bit_or (bit_and x (zero_bit v + 2 * zs)) (bit_and y (one_bit v + 2 * os))) (bit_and (bit_or x y) (unknown_bit v + 2 * us))
      ≡ both (head a b (zero_bit v) (one_bit v) (unknown_bit v)) (verdict (bit_or (bit_and (x / 2) zs) (bit_and (y / 2) os)) (bit_and (bit_or (x / 2) (y / 2)) us)) =
      ap (λ n. verdict (bit_or (bit_and n (zero_bit v + 2 * zs)) (bit_and y (one_bit v + 2 * os))) (bit_and (bit_or n y) (unknown_bit v + 2 * us))) (sym ex)
      ∙ (ap (λ n. verdict (bit_or (bit_and (a + 2 * (x / 2)) (zero_bit v + 2 * zs)) (bit_and n (one_bit v + 2 * os))) (bit_and (bit_or (a + 2 * (x / 2)) n) (unknown_bit v + 2 * us))) (sym ey)
      ∙ (ap (λ n. verdict n (bit_and (bit_or (a + 2 * (x / 2)) (b + 2 * (y / 2))) (unknown_bit v + 2 * us))) (against_cons a b (zero_bit v) (one_bit v) (x / 2) (y / 2) zs os p q (zero_bit-few v) (one_bit-few v))
      ∙ (ap (verdict (bit_or (bit_and a (zero_bit v)) (bit_and b (one_bit v)) + 2 * bit_or (bit_and (x / 2) zs) (bit_and (y / 2) os))) (doubt_cons a b (unknown_bit v) (x / 2) (y / 2) us p q (unknown_bit-few v))
      ∙ verdict_cons (bit_or (bit_and a (zero_bit v)) (bit_and b (one_bit v))) (bit_or (bit_and (x / 2) zs) (bit_and (y / 2) os)) (bit_and (bit_or a b) (unknown_bit v)) (bit_and (bit_or (x / 2) (y / 2)) us)))) in
      bit_at_and (asked_word (o ∷ ones) x) (asked_word (z ∷ zeros) y) place
      ∙ (ap (λ n. min n (bit_at (asked_word (z ∷ zeros) y) place)) (bit_at_and (asked_word ones (x / 2)) (kept_word x o) place)
      ∙ (ap (min (min (bit_at (asked_word ones (x / 2)) place) (bit_at (kept_word x o) place))) (bit_at_and (asked_word zeros (y / 2)) (kept_word y z) place)
      ∙ (four_meet (bit_at (asked_word ones (x / 2)) place) (bit_at (kept_word x o) place) (bit_at (asked_word zeros (y / 2)) place) (bit_at (kept_word y z) place)
      ∙ (ap (λ n. min n (min (bit_at (asked_word ones (x / 2)) place) (bit_at (asked_word zeros (y / 2)) place)))
      (ap (λ n. min n (bit_at (kept_word y z) place)) low_part ∙ (ap (min (read (asked_of a v))) high_part ∙ (sym (reading.both_is (asked_of a v) (asked_of b (inverse v))) ∙ ap read (head_is a b p q v))))
      ∙ (ap (min (read (head a b (zero_bit v) (one_bit v) (unknown_bit v)))) (sym split ∙ more)
      ∙ (sym (reading.both_is (head a b (zero_bit v) (one_bit v) (unknown_bit v)) (verdict (bit_or (bit_and (x / 2) zs) (bit_and (y / 2) os)) (bit_and (bit_or (x / 2) (y / 2)) us)))
      ∙ ap read (sym whole)))))))
  row_at [] [] (v ∷ values) x y are = absurd are
  row_at [] (z ∷ zeros) values x y are = absurd are
  row_at (o ∷ ones) [] values x y are = absurd are
  row_at (o ∷ ones) (z ∷ zeros) [] x y are = absurd are

  -- whether some row takes them
  pub some_at : (ones zeros : List ℕ) (values : Row) (masks : List Mask) → AreRead read ones zeros values place
      → bit_at (some_word ones zeros masks) place ≡ read (singles_value masks (words_of_values values))
  some_at ones zeros values [] are = bit_at-zero place ∙ sym reading.zero_is
  some_at ones zeros values (mask ∷ masks) are =
      bit_at_or (some_word ones zeros masks) (row_word ones zeros mask) place
      ∙ (ap (λ n. max n (bit_at (row_word ones zeros mask) place)) (some_at ones zeros values masks are)
      ∙ (ap (max (read (singles_value masks (words_of_values values)))) (row_at ones zeros values mask.needs_one mask.needs_zero are)
      ∙ sym (reading.either_is (mask_value mask (words_of_values values)) (singles_value masks (words_of_values values)))))

-- a word more in front
pub asked_more : (words : List ℕ) (needs i old new d : ℕ) → 0 < i → i ≤ length words → old ≡ asked_word (drop i words) (needs / 2 ^ i)
    → new ≡ bit_and old (kept_word (needs / 2 ^ (i - 1)) (get_or words (i - 1) d)) → new ≡ asked_word (drop (i - 1) words) (needs / 2 ^ (i - 1))
asked_more words needs zero old new d some inside before after = absurd (omega arith)
asked_more words needs (suc i) old new d some inside before after =
    let e : suc i - 1 ≡ i = omega arith in
    let n : i + 1 ≡ suc i = omega arith in
    let half : needs / 2 ^ i / 2 ≡ needs / 2 ^ suc i = shr-shr needs i 1 ∙ ap (λ m. needs / 2 ^ m) n in
    after ∙ (ap (λ m. bit_and m (kept_word (needs / 2 ^ (suc i - 1)) (get_or words (suc i - 1) d))) before
    ∙ (ap (λ m. bit_and (asked_word (drop (suc i) words) (needs / 2 ^ suc i)) (kept_word (needs / 2 ^ m) (get_or words m d))) e
    ∙ (ap (λ m. bit_and (asked_word (drop (suc i) words) m) (kept_word (needs / 2 ^ i) (get_or words i d))) (sym half)
    ∙ (ap (λ ws. asked_word ws (needs / 2 ^ i)) (sym (drop-cons words i d (omega arith)))
    ∙ ap (λ m. asked_word (drop m words) (needs / 2 ^ m)) (sym e)))))

-- a row more in front
pub some_more : (ones zeros : List ℕ) (masks : List Mask) (k old new : ℕ) (d : Mask) → 0 < k → k ≤ length masks → old ≡ some_word ones zeros (drop k masks)
    → new ≡ bit_or old (row_word ones zeros (get_or masks (k - 1) d)) → new ≡ some_word ones zeros (drop (k - 1) masks)
some_more ones zeros masks zero old new d some inside before after = absurd (omega arith)
some_more ones zeros masks (suc k) old new d some inside before after =
    let e : suc k - 1 ≡ k = omega arith in
    after ∙ (ap (λ m. bit_or m (row_word ones zeros (get_or masks (suc k - 1) d))) before
    ∙ (ap (λ m. bit_or (some_word ones zeros (drop (suc k) masks)) (row_word ones zeros (get_or masks m d))) e
    ∙ (ap (some_word ones zeros) (sym (drop-cons masks k d (omega arith)))
    ∙ ap (λ m. some_word ones zeros (drop m masks)) (sym e))))
