-- Words of six known values, and of three values that may be unknown, at their places.
use Rattle.std.proofs.Common.{◌≡◌, ◌≢◌, ℕ, zero, suc, ◌+◌, ◌-◌, ◌*◌, ◌^◌, ◌<◌, ◌/◌, ◌%◌, ◌==◌, ◌&&◌, Bool, true, false, if◌then◌else◌, max, List, [], ◌∷◌, refl, ap, arith, sym, ◌∙◌, inl, inr}
use Rattle.std.specs.Int.{bit_at}
use Rattle.std.specs.Int.RustNames.{bit_and, bit_xor}
use Rattle.std.proofs.lemmas.Bool.{cases_eq, eqb-true, false≢true}
use Rattle.std.proofs.lemmas.List.Elements.{All-head, All-tail}
use Rattle.std.proofs.lemmas.Nat.{shr-shr}
use Rattle.std.proofs.lemmas.Nat.Bits.{bit_at-lt, bit_at-suc, bit_at_and, bit_at_ones, bit_at_or, bit_at_xor}
use Rattle.ds_base.specs.Values.{Row, inverse}
use Rattle.ds_base.specs.declared.value.Value.{Value}
use Rattle.ds_base.specs.declared.value.Value.TheVariants.{Zero, One, Unknown}
use Rattle.ds_cover.specs.Cover.{signed}
use Rattle.ds_cover.specs.Kept.{IsTruth, bit_value, singles_value}
use Rattle.ds_cover.specs.Packed.{bits_by, one_bit, words_of_values}
use Rattle.ds_cover.specs.Rows.{some_word}
use Rattle.ds_cover.specs.Ternary.{IsWordOf, code_value, coded_word, three_at}
use Rattle.ds_cover.specs.declared.mask.Mask.{Mask}
use Rattle.ds_cover.proofs.Bits.{one_bit-few}
use Rattle.ds_cover.proofs.SmallTableWords.{no_unknowns, singles_known}
use Rattle.ds_cover.proofs.WordBits.{AreRead, one_reading, some_at, some_bit, some_reading}

-- whether all numbers below one have a property
abbrev all_below : ℕ → (ℕ → Bool) → Bool
all_below zero f = true
all_below (suc n) f = f n && all_below n f

both_true : (a b : Bool) → (a && b) ≡ true → (a ≡ true) × (b ≡ true)
both_true true b is = (refl, is)
both_true false b is = absurd (false≢true is)

one_below : (n : ℕ) (f : ℕ → Bool) → all_below n f ≡ true → (i : ℕ) → i < n → f i ≡ true
one_below zero f all i low = absurd (omega arith)
one_below (suc n) f all i low =
    let (here, rest) = both_true (f n) (all_below n f) all in
    elim (cases_eq i n) [
      | inl e ↦ ap f e ∙ here
      | inr ne ↦ one_below n f rest i (omega arith)
    ]

-- two functions that are the same below a number, as a table tells
same_below : (n : ℕ) (f g : ℕ → ℕ) → all_below n (λ i. f i == g i) ≡ true → (i : ℕ) → i < n → f i ≡ g i
same_below n f g all i low = eqb-true (f i) (g i) (one_below n (λ i. f i == g i) all i low)

-- the places of six values where each is one, and where it is zero
abbrev six_ones : List ℕ
six_ones = 12297829382473034410 ∷ 14757395258967641292 ∷ 17361641481138401520 ∷ 18374966859414961920 ∷ 18446462603027742720 ∷ 18446744069414584320 ∷ []

abbrev six_zeros : List ℕ
six_zeros = 6148914691236517205 ∷ 3689348814741910323 ∷ 1085102592571150095 ∷ 71777214294589695 ∷ 281470681808895 ∷ 4294967295 ∷ []

abbrev Known : Value → Type 0
Known value = value ≢ Unknown

-- a known value by its bit
by_bit : (o z place n : ℕ) (v : Value) → Known v → n ≡ one_bit v → bit_at o place ≡ n → bit_at z place ≡ 1 - n
    → (bit_at o place ≡ some_bit v) × (bit_at z place ≡ some_bit (inverse v))
by_bit o z place n Zero known is low high = (low ∙ is, high ∙ ap (λ m. 1 - m) is)
by_bit o z place n One known is low high = (low ∙ is, high ∙ ap (λ m. 1 - m) is)
by_bit o z place n Unknown known is low high = absurd (known refl)

module _ (u v w x y z : Value) (ku : Known u) (kv : Known v) (kw : Known w) (kx : Known x) (ky : Known y) (kz : Known z) where
  abbrev own_place : ℕ
  own_place = bits_by one_bit (u ∷ v ∷ w ∷ x ∷ y ∷ z ∷ [])

  place_low : own_place < 64
  place_low = (let a = one_bit-few u in let b = one_bit-few v in let c = one_bit-few w in let d = one_bit-few x in let e = one_bit-few y in let f = one_bit-few z in omega arith)

  bit_0 : own_place / 1 % 2 ≡ one_bit u
  bit_0 = (let a = one_bit-few u in let b = one_bit-few v in let c = one_bit-few w in let d = one_bit-few x in let e = one_bit-few y in let f = one_bit-few z in omega arith)

  bit_1 : own_place / 2 % 2 ≡ one_bit v
  bit_1 = (let a = one_bit-few u in let b = one_bit-few v in let c = one_bit-few w in let d = one_bit-few x in let e = one_bit-few y in let f = one_bit-few z in omega arith)

  bit_2 : own_place / 4 % 2 ≡ one_bit w
  bit_2 = (let a = one_bit-few u in let b = one_bit-few v in let c = one_bit-few w in let d = one_bit-few x in let e = one_bit-few y in let f = one_bit-few z in omega arith)

  bit_3 : own_place / 8 % 2 ≡ one_bit x
  bit_3 = (let a = one_bit-few u in let b = one_bit-few v in let c = one_bit-few w in let d = one_bit-few x in let e = one_bit-few y in let f = one_bit-few z in omega arith)

  bit_4 : own_place / 16 % 2 ≡ one_bit y
  bit_4 = (let a = one_bit-few u in let b = one_bit-few v in let c = one_bit-few w in let d = one_bit-few x in let e = one_bit-few y in let f = one_bit-few z in omega arith)

  bit_5 : own_place / 32 % 2 ≡ one_bit z
  bit_5 = (let a = one_bit-few u in let b = one_bit-few v in let c = one_bit-few w in let d = one_bit-few x in let e = one_bit-few y in let f = one_bit-few z in omega arith)

  pair_0 : (bit_at 12297829382473034410 own_place ≡ some_bit u) × (bit_at 6148914691236517205 own_place ≡ some_bit (inverse u))
  pair_0 = by_bit 12297829382473034410 6148914691236517205 own_place (own_place / 1 % 2) u ku bit_0 (same_below 64 (bit_at 12297829382473034410) (λ p. p / 1 % 2) refl own_place place_low) (same_below 64 (bit_at 6148914691236517205) (λ p. 1 - p / 1 % 2) refl own_place place_low)

  pair_1 : (bit_at 14757395258967641292 own_place ≡ some_bit v) × (bit_at 3689348814741910323 own_place ≡ some_bit (inverse v))
  pair_1 = by_bit 14757395258967641292 3689348814741910323 own_place (own_place / 2 % 2) v kv bit_1 (same_below 64 (bit_at 14757395258967641292) (λ p. p / 2 % 2) refl own_place place_low) (same_below 64 (bit_at 3689348814741910323) (λ p. 1 - p / 2 % 2) refl own_place place_low)

  pair_2 : (bit_at 17361641481138401520 own_place ≡ some_bit w) × (bit_at 1085102592571150095 own_place ≡ some_bit (inverse w))
  pair_2 = by_bit 17361641481138401520 1085102592571150095 own_place (own_place / 4 % 2) w kw bit_2 (same_below 64 (bit_at 17361641481138401520) (λ p. p / 4 % 2) refl own_place place_low) (same_below 64 (bit_at 1085102592571150095) (λ p. 1 - p / 4 % 2) refl own_place place_low)

  pair_3 : (bit_at 18374966859414961920 own_place ≡ some_bit x) × (bit_at 71777214294589695 own_place ≡ some_bit (inverse x))
  pair_3 = by_bit 18374966859414961920 71777214294589695 own_place (own_place / 8 % 2) x kx bit_3 (same_below 64 (bit_at 18374966859414961920) (λ p. p / 8 % 2) refl own_place place_low) (same_below 64 (bit_at 71777214294589695) (λ p. 1 - p / 8 % 2) refl own_place place_low)

  pair_4 : (bit_at 18446462603027742720 own_place ≡ some_bit y) × (bit_at 281470681808895 own_place ≡ some_bit (inverse y))
  pair_4 = by_bit 18446462603027742720 281470681808895 own_place (own_place / 16 % 2) y ky bit_4 (same_below 64 (bit_at 18446462603027742720) (λ p. p / 16 % 2) refl own_place place_low) (same_below 64 (bit_at 281470681808895) (λ p. 1 - p / 16 % 2) refl own_place place_low)

  pair_5 : (bit_at 18446744069414584320 own_place ≡ some_bit z) × (bit_at 4294967295 own_place ≡ some_bit (inverse z))
  pair_5 = by_bit 18446744069414584320 4294967295 own_place (own_place / 32 % 2) z kz bit_5 (same_below 64 (bit_at 18446744069414584320) (λ p. p / 32 % 2) refl own_place place_low) (same_below 64 (bit_at 4294967295) (λ p. 1 - p / 32 % 2) refl own_place place_low)

  six_read : AreRead some_bit six_ones six_zeros (u ∷ v ∷ w ∷ x ∷ y ∷ z ∷ []) own_place
  six_read = (pair_0.0, pair_0.1, (pair_1.0, pair_1.1, (pair_2.0, pair_2.1, (pair_3.0, pair_3.1, (pair_4.0, pair_4.1, (pair_5.0, pair_5.1, tt))))))

-- the value of a bit, or of the other one
bit_signed : (on : Bool) (value : Value) (bit : ℕ) → Known value → bit ≡ (if on then some_bit value else (some_bit value + 1) % 2) → bit_value bit ≡ signed on value
bit_signed true Zero bit known is = ap bit_value is
bit_signed true One bit known is = ap bit_value is
bit_signed false Zero bit known is = ap bit_value is
bit_signed false One bit known is = ap bit_value is
bit_signed on Unknown bit known is = absurd (known refl)

-- the word of some rows, or of none
abbrev sign_word : Bool → ℕ → ℕ
sign_word on word = if on then word else bit_xor word 18446744073709551615

sign_at : (on : Bool) (word place : ℕ) → place < 64 → bit_at (sign_word on word) place ≡ (if on then bit_at word place else (bit_at word place + 1) % 2)
sign_at true word place low = refl
sign_at false word place low = bit_at_xor word 18446744073709551615 place ∙ ap (λ n. (bit_at word place + n) % 2) (bit_at_ones 64 place low)

truth_is : (masks : List Mask) (on : Bool) (truth : ℕ) → truth ≡ sign_word on (some_word six_ones six_zeros masks) → IsTruth masks on truth
truth_is masks on truth is (u ∷ v ∷ w ∷ x ∷ y ∷ z ∷ []) six known =
    let ku : Known u = All-head Known u (v ∷ w ∷ x ∷ y ∷ z ∷ []) known in
    let r1 = All-tail Known u (v ∷ w ∷ x ∷ y ∷ z ∷ []) known in
    let kv : Known v = All-head Known v (w ∷ x ∷ y ∷ z ∷ []) r1 in
    let r2 = All-tail Known v (w ∷ x ∷ y ∷ z ∷ []) r1 in
    let kw : Known w = All-head Known w (x ∷ y ∷ z ∷ []) r2 in
    let r3 = All-tail Known w (x ∷ y ∷ z ∷ []) r2 in
    let kx : Known x = All-head Known x (y ∷ z ∷ []) r3 in
    let r4 = All-tail Known x (y ∷ z ∷ []) r3 in
    let ky : Known y = All-head Known y (z ∷ []) r4 in
    let kz : Known z = All-head Known z [] (All-tail Known y (z ∷ []) r4) in
    let values : Row = u ∷ v ∷ w ∷ x ∷ y ∷ z ∷ [] in
    let n = bits_by one_bit (u ∷ v ∷ w ∷ x ∷ y ∷ z ∷ []) in
    let low = place_low u v w x y z ku kv kw kx ky kz in
    let bit : bit_at (some_word six_ones six_zeros masks) n ≡ some_bit (singles_value masks (words_of_values values)) =
    some_at some_bit some_reading n low six_ones six_zeros values masks (six_read u v w x y z ku kv kw kx ky kz) in
    bit_signed on (singles_value masks (words_of_values values)) (bit_at truth n) (singles_known masks (words_of_values values) (no_unknowns values known))
    (ap (λ t. bit_at t n) is ∙ (sign_at on (some_word six_ones six_zeros masks) n low ∙ ap (λ b. if on then b else (b + 1) % 2) bit))
truth_is masks on truth is [] six known = absurd (omega arith)
truth_is masks on truth is (u ∷ []) six known = absurd (omega arith)
truth_is masks on truth is (u ∷ v ∷ []) six known = absurd (omega arith)
truth_is masks on truth is (u ∷ v ∷ w ∷ []) six known = absurd (omega arith)
truth_is masks on truth is (u ∷ v ∷ w ∷ x ∷ []) six known = absurd (omega arith)
truth_is masks on truth is (u ∷ v ∷ w ∷ x ∷ y ∷ []) six known = absurd (omega arith)
truth_is masks on truth is (u ∷ v ∷ w ∷ x ∷ y ∷ z ∷ h ∷ rest) six known = absurd (omega arith)

-- the same of three values that may be unknown, two bits each
abbrev three_ones : List ℕ
three_ones = 8006399337547548 ∷ 6188075046756288 ∷ 6004845315883008 ∷ []

abbrev three_zeros : List ℕ
three_zeros = 5432913836192979 ∷ 5915326403137599 ∷ 6004776596930559 ∷ []

-- the values of a place
abbrev digit : ℕ → ℕ → Value
digit zero place = code_value (place % 3)
digit (suc zero) place = code_value (place / 3 % 3)
digit i place = code_value (place / 9)

lower_read : (place : ℕ) → place < 27 → AreRead some_bit three_ones three_zeros (three_at place) (2 * place)
lower_read place low = (
  same_below 27 (λ p. bit_at 8006399337547548 (2 * p)) (λ p. some_bit (digit 0 p)) refl place low,
  same_below 27 (λ p. bit_at 5432913836192979 (2 * p)) (λ p. some_bit (inverse (digit 0 p))) refl place low,
  (
    same_below 27 (λ p. bit_at 6188075046756288 (2 * p)) (λ p. some_bit (digit 1 p)) refl place low,
    same_below 27 (λ p. bit_at 5915326403137599 (2 * p)) (λ p. some_bit (inverse (digit 1 p))) refl place low,
    (
      same_below 27 (λ p. bit_at 6004845315883008 (2 * p)) (λ p. some_bit (digit 2 p)) refl place low,
      same_below 27 (λ p. bit_at 6004776596930559 (2 * p)) (λ p. some_bit (inverse (digit 2 p))) refl place low,
      tt,
    ),
  ),
)

upper_read : (place : ℕ) → place < 27 → AreRead one_bit three_ones three_zeros (three_at place) (suc (2 * place))
upper_read place low = (
  same_below 27 (λ p. bit_at 8006399337547548 (suc (2 * p))) (λ p. one_bit (digit 0 p)) refl place low,
  same_below 27 (λ p. bit_at 5432913836192979 (suc (2 * p))) (λ p. one_bit (inverse (digit 0 p))) refl place low,
  (
    same_below 27 (λ p. bit_at 6188075046756288 (suc (2 * p))) (λ p. one_bit (digit 1 p)) refl place low,
    same_below 27 (λ p. bit_at 5915326403137599 (suc (2 * p))) (λ p. one_bit (inverse (digit 1 p))) refl place low,
    (
      same_below 27 (λ p. bit_at 6004845315883008 (suc (2 * p))) (λ p. one_bit (digit 2 p)) refl place low,
      same_below 27 (λ p. bit_at 6004776596930559 (suc (2 * p))) (λ p. one_bit (inverse (digit 2 p))) refl place low,
      tt,
    ),
  ),
)

code_is : (on : Bool) (value : Value) (a b : ℕ) → a ≡ (if on then one_bit value else (some_bit value + 1) % 2) → b ≡ (some_bit value + one_bit value) % 2
    → code_value (a + 2 * b) ≡ signed on value
code_is true Zero a b p q = (let e : a + 2 * b ≡ 0 = omega arith in ap code_value e)
code_is true One a b p q = (let e : a + 2 * b ≡ 1 = omega arith in ap code_value e)
code_is true Unknown a b p q = (let e : a + 2 * b ≡ 2 = omega arith in ap code_value e)
code_is false Zero a b p q = (let e : a + 2 * b ≡ 1 = omega arith in ap code_value e)
code_is false One a b p q = (let e : a + 2 * b ≡ 0 = omega arith in ap code_value e)
code_is false Unknown a b p q = (let e : a + 2 * b ≡ 2 = omega arith in ap code_value e)

-- two bits of a number
two_bits_at : (n i : ℕ) → n / 2 ^ i % 4 ≡ bit_at n i + 2 * bit_at n (suc i)
two_bits_at n i =
    let next : i + 1 ≡ suc i = omega arith in
    let up : bit_at n (suc i) ≡ n / 2 ^ i / 2 % 2 = ap (λ m. n / 2 ^ m % 2) (sym next) ∙ ap (λ m. m % 2) (sym (shr-shr n i 1)) in
    omega arith

-- the parts of a coded word at a place
module _ (word place : ℕ) (low : place < 27) where
  even_lower : bit_at 6004799503160661 (2 * place) ≡ 1
  even_lower = same_below 27 (λ p. bit_at 6004799503160661 (2 * p)) (λ p. 1) refl place low

  even_upper : bit_at 6004799503160661 (suc (2 * place)) ≡ 0
  even_upper = same_below 27 (λ p. bit_at 6004799503160661 (suc (2 * p))) (λ p. 0) refl place low

  odd_lower : bit_at 12009599006321322 (2 * place) ≡ 0
  odd_lower = same_below 27 (λ p. bit_at 12009599006321322 (2 * p)) (λ p. 0) refl place low

  odd_upper : bit_at 12009599006321322 (suc (2 * place)) ≡ 1
  odd_upper = same_below 27 (λ p. bit_at 12009599006321322 (suc (2 * p))) (λ p. 1) refl place low

  abbrev sure : ℕ
  sure = bit_and word 6004799503160661

  sure_lower : bit_at sure (2 * place) ≡ bit_at word (2 * place)
  sure_lower = bit_at_and word 6004799503160661 (2 * place) ∙ (let e = even_lower in let l = bit_at-lt word (2 * place) in omega arith)

  sure_upper : bit_at sure (suc (2 * place)) ≡ 0
  sure_upper = bit_at_and word 6004799503160661 (suc (2 * place)) ∙ (let e = even_upper in omega arith)

  twice_upper : bit_at (2 * sure) (suc (2 * place)) ≡ bit_at word (2 * place)
  twice_upper =
      let half : 2 * sure / 2 ≡ sure = omega arith in
      bit_at-suc (2 * sure) (2 * place) ∙ (ap (λ n. bit_at n (2 * place)) half ∙ sure_lower)

  abbrev doubt : ℕ
  doubt = bit_and (bit_xor (2 * sure) word) 12009599006321322

  doubt_lower : bit_at doubt (2 * place) ≡ 0
  doubt_lower = bit_at_and (bit_xor (2 * sure) word) 12009599006321322 (2 * place) ∙ (let e = odd_lower in omega arith)

  doubt_upper : bit_at doubt (suc (2 * place)) ≡ (bit_at word (2 * place) + bit_at word (suc (2 * place))) % 2
  doubt_upper =
      bit_at_and (bit_xor (2 * sure) word) 12009599006321322 (suc (2 * place))
      ∙ (let e = odd_upper in let l = bit_at-lt (bit_xor (2 * sure) word) (suc (2 * place)) in let x = bit_at_xor (2 * sure) word (suc (2 * place)) in let t = twice_upper in omega arith)

  abbrev ones : Bool → ℕ
  ones on = if on then bit_and (word / 2) 6004799503160661 else bit_xor sure 6004799503160661

  ones_lower : (on : Bool) → bit_at (ones on) (2 * place) ≡ (if on then bit_at word (suc (2 * place)) else (bit_at word (2 * place) + 1) % 2)
  ones_lower true = bit_at_and (word / 2) 6004799503160661 (2 * place) ∙ (let e = even_lower in let s = bit_at-suc word (2 * place) in let l = bit_at-lt (word / 2) (2 * place) in omega arith)
  ones_lower false = bit_at_xor sure 6004799503160661 (2 * place) ∙ (let e = even_lower in let s = sure_lower in omega arith)

  ones_upper : (on : Bool) → bit_at (ones on) (suc (2 * place)) ≡ 0
  ones_upper true = bit_at_and (word / 2) 6004799503160661 (suc (2 * place)) ∙ (let e = even_upper in omega arith)
  ones_upper false = bit_at_xor sure 6004799503160661 (suc (2 * place)) ∙ (let e = even_upper in let s = sure_upper in omega arith)

  coded_lower : (on : Bool) → bit_at (coded_word on word) (2 * place) ≡ (if on then bit_at word (suc (2 * place)) else (bit_at word (2 * place) + 1) % 2)
  coded_lower on = bit_at_or (ones on) doubt (2 * place) ∙ ((let d = doubt_lower in let m : max (bit_at (ones on) (2 * place)) (bit_at doubt (2 * place)) ≡ bit_at (ones on) (2 * place) = omega arith in m) ∙ ones_lower on)

  coded_upper : (on : Bool) → bit_at (coded_word on word) (suc (2 * place)) ≡ (bit_at word (2 * place) + bit_at word (suc (2 * place))) % 2
  coded_upper on = bit_at_or (ones on) doubt (suc (2 * place)) ∙ ((let d = ones_upper on in let m : max (bit_at (ones on) (suc (2 * place))) (bit_at doubt (suc (2 * place))) ≡ bit_at doubt (suc (2 * place)) = omega arith in m) ∙ doubt_upper)

pub word_is : (masks : List Mask) (on : Bool) (word : ℕ) → word ≡ coded_word on (some_word three_ones three_zeros masks) → IsWordOf masks on word
word_is masks on word is place low =
    let rows = some_word three_ones three_zeros masks in
    let value = singles_value masks (words_of_values (three_at place)) in
    let lower : bit_at rows (2 * place) ≡ some_bit value = some_at some_bit some_reading (2 * place) (omega arith) three_ones three_zeros (three_at place) masks (lower_read place low) in
    let upper : bit_at rows (suc (2 * place)) ≡ one_bit value = some_at one_bit one_reading (suc (2 * place)) (omega arith) three_ones three_zeros (three_at place) masks (upper_read place low) in
    ap (λ n. code_value (n / 2 ^ (2 * place) % 4)) is
    ∙ (ap code_value (two_bits_at (coded_word on rows) (2 * place))
    ∙ code_is on value (bit_at (coded_word on rows) (2 * place)) (bit_at (coded_word on rows) (suc (2 * place)))
    (coded_lower rows place low on ∙ (ap (λ n. if on then n else (bit_at rows (2 * place) + 1) % 2) upper ∙ ap (λ n. if on then one_bit value else (n + 1) % 2) lower))
    (coded_upper rows place low on ∙ (ap (λ n. (n + bit_at rows (suc (2 * place))) % 2) lower ∙ ap (λ n. (some_bit value + n) % 2) upper)))

pub truth_on : (masks : List Mask) (on : Bool) (truth : ℕ) → on ≡ true → truth ≡ some_word six_ones six_zeros masks → IsTruth masks on truth
truth_on masks on truth is same = truth_is masks on truth (same ∙ ap (λ b. sign_word b (some_word six_ones six_zeros masks)) (sym is))

pub truth_off : (masks : List Mask) (on : Bool) (rows : ℕ) → on ≡ false → rows ≡ some_word six_ones six_zeros masks → IsTruth masks on (bit_xor rows 18446744073709551615)
truth_off masks on rows is same =
    truth_is masks on (bit_xor rows 18446744073709551615) (ap (λ n. bit_xor n 18446744073709551615) same ∙ ap (λ b. sign_word b (some_word six_ones six_zeros masks)) (sym is))
