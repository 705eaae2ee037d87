-- The digits of a word.
use Rattle.std.proofs.Common.{◌≡◌, ◌&&◌, ℕ, ◌+◌, ◌-◌, ◌*◌, ◌<◌, ◌≤◌, Bool, true, false, not, List, [], ◌∷◌, length, take, get_or, refl, arith}
use Rattle.std.specs.Prelude.{nat_lt}
use Rattle.std.specs.Char.{digit_value}
use Rattle.std.specs.List.{list_all}
use Rattle.std.specs.Str.Parse.{digits_value, AllDigits}
use Rattle.std.proofs.lemmas.Bool.{ltb-true, false≢true}
use Rattle.std.proofs.lemmas.Int.Digits.{digits_value_more}
use Rattle.std.proofs.lemmas.Str.{digit_value_digit}
use Rattle.std.proofs.lemmas.Str.Parse.{digits_value_short, numerals_by_value, tells_digits, digit_at, digits_value-take-le}
use Rattle.ds_rows.specs.Number.{is_decimal, is_short_number}

-- both tests hold
pub both_hold : (a b : Bool) → (a && b) ≡ true → (a ≡ true) × (b ≡ true)
both_hold true b e = (refl, e)
both_hold false b e = absurd (false≢true e)

-- a test that fails
pub fails : (a : Bool) → not a ≡ true → a ≡ false
fails true e = absurd (false≢true e)
fails false e = refl

-- the value of a digit
digit_low : (byte : ℕ) → is_decimal byte ≡ true → digit_value byte < 10
digit_low byte is =
    let (low, high) = both_hold _ _ is in
    let below : byte < 58 = ltb-true byte 58 high in
    rw (fails _ low, high) (omega arith)

pub all_digits : (word : List ℕ) → list_all is_decimal word ≡ true → AllDigits 10 word
all_digits [] is = tt
all_digits (byte ∷ word) is = let (here, rest) = both_hold _ _ is in (digit_low byte here, all_digits word rest)

-- what is known of the number's word
pub record IsNumber (word : List ℕ) : Type 0 where
  pub short : length word < 11
  pub digits : AllDigits 10 word
  pub low : digits_value 10 word < 10000000000

pub is_number : (word : List ℕ) → is_short_number word ≡ true → IsNumber word
is_number word is =
    let (some, rest) = both_hold (nat_lt 0 (length word)) (nat_lt (length word) 11 && list_all is_decimal word) is in
    let (short, digits) = both_hold (nat_lt (length word) 11) (list_all is_decimal word) rest in
    let few : length word < 11 = ltb-true (length word) 11 short in
    record {
      short = few;
      digits = all_digits word digits;
      low = digits_value_short (numerals_by_value (AllDigits 10) tells_digits) word 10 (all_digits word digits) (omega arith);
    }

-- one digit more
pub record IsStep (word : List ℕ) (i value digit : ℕ) : Type 0 where
  pub tenfold : value * 10 < 18446744073709551616
  pub sum : value * 10 + digit < 18446744073709551616
  pub more : value * 10 + digit ≡ digits_value 10 (take (i + 1) word)

pub digit_more : (word : List ℕ) (i value digit : ℕ) → is_short_number word ≡ true → value ≡ digits_value 10 (take i word) → i < length word → digit ≡ get_or word i 0 - 48 → IsStep word i value digit
digit_more word i value digit is at inside digit_is =
    let number : IsNumber word = is_number word is in
    let (from, to) = digit_at word i number.digits inside in
    let here : digit_value (get_or word i 0) + 48 ≡ get_or word i 0 = digit_value_digit (get_or word i 0) (from, to) in
    let more : digits_value 10 (take (i + 1) word) ≡ digits_value 10 (take i word) * 10 + digit_value (get_or word i 0) = digits_value_more 10 word i inside in
    let part : digits_value 10 (take (i + 1) word) ≤ digits_value 10 word = digits_value-take-le 10 word (i + 1) (omega arith) in
    let low : digits_value 10 word < 10000000000 = number.low in
    let same : digit ≡ digit_value (get_or word i 0) = omega (arith, here, digit_is) in
    record {
      tenfold = omega (arith, more, part, low, at);
      sum = omega (arith, more, part, low, at, same);
      more = omega (arith, more, at, same);
    }
