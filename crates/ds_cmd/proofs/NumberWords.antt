-- Words that are numbers.
use Rattle.std.proofs.Common.{◌≡◌, ◌==◌, ◌&&◌, ◌<◌, ◌≤◌, ◌^◌, ℕ, Bool, true, false, not, length}
use Rattle.std.proofs.Common.{◌∷◌, [], Some, None, Ok, Err, inl, inr, refl, arith, ap, sym}
use Rattle.std.proofs.Common.{◌∙◌, if◌then◌else◌, rules}
use Rattle.std.specs.Prelude.{nat_lt, nat_le}
use Rattle.std.specs.Char.{is_ascii_digit}
use Rattle.std.specs.Fmt.{decimal}
use Rattle.std.specs.List.{list_all}
use Rattle.std.specs.Result.{OkIff}
use Rattle.std.specs.declared.result.Result.{Result}
use Rattle.std.specs.Str.Parse.{digits_value, IsNumeral, ParsesUnsigned}
use Rattle.std.proofs.lemmas.Bool.{cases_Bool, leb-true, le-leb, ltb-true, lt-ltb, eqb-true}
use Rattle.std.proofs.lemmas.Bool.{false≢true}
use Rattle.std.proofs.lemmas.Option.{same_Some}
use Rattle.std.proofs.lemmas.Fmt.{decimal_is_IsNumeral, length-decimal-le}
use Rattle.std.proofs.lemmas.Str.Parse.{IsNumeralModel, numerals_by_value, parse_digits}
use Rattle.clap.specs.Words.{Text}
use Rattle.ds_cmd.specs.Plain.{is_plain}
use Rattle.ds_cmd.specs.Number.{is_between, is_numeral, number_in_range}

-- both tests hold
pub both_hold : (a b : Bool) → (a && b) ≡ true → (a ≡ true) × (b ≡ true)
both_hold true b e = (refl, e)
both_hold false b e = absurd (false≢true e)

-- a word of digits
digits : IsNumeralModel (λ word. list_all is_ascii_digit word ≡ true) (digits_value 10)
digits = numerals_by_value _ (search rules)

-- what is known of a numeral
record IsNumber (word : Text) : Type 0 where
  some : 0 < length word
  digits : list_all is_ascii_digit word ≡ true

is_number : (word : Text) → is_numeral word ≡ true → IsNumber word
is_number word is =
    let (some, rest) = both_hold (nat_lt 0 (length word)) _ is in
    record {
      some = ltb-true 0 (length word) some;
      digits = (both_hold (nat_lt (length word) 21) (list_all is_ascii_digit word) rest).1;
    }

-- what std's `parse` gives at a numeral
parsed : {E : Type 0} (word : Text) (read : Result ℕ E) → is_numeral word ≡ true
    → ParsesUnsigned 64 10 word read
    → OkIff read ((0 < length word) × (digits_value 10 word < 2 ^ 64)) (digits_value 10 word)
parsed word read is value = parse_digits digits 64 word read value (is_number word is).digits

-- no numeral, no number
pub no_numeral : (least most : ℕ) (word : Text) → is_numeral word ≡ false
    → number_in_range least most word ≡ None
unfolding number_in_range
no_numeral least most word e = rw e refl

-- outside of the range, no number
outside : (least most : ℕ) (word : Text) → is_between least most (digits_value 10 word) ≡ false
    → number_in_range least most word ≡ None
unfolding number_in_range
outside least most word e = go (is_numeral word)
  where
    go : (b : Bool) → (if b && is_between least most (digits_value 10 word)
        then Some (digits_value 10 word) else None) ≡ None
    go true = rw e refl
    go false = refl

-- inside, the value of its digits
pub inside : (least most : ℕ) (word : Text) → is_numeral word ≡ true
    → least ≤ digits_value 10 word → digits_value 10 word ≤ most
    → number_in_range least most word ≡ Some (digits_value 10 word)
unfolding number_in_range
inside least most word is from to = rw (is, le-leb _ _ from, le-leb _ _ to) refl

-- a test of a number that a range keeps out
low : (least most value : ℕ) → value < least → is_between least most value ≡ false
low least most value e = elim (cases_Bool (nat_le least value)) [
  | inl holds ↦ let other : least ≤ value = leb-true least value holds in absurd (omega arith)
  | inr fails ↦ rw fails refl
]

-- a number in the range is at most its end
under : (least most value : ℕ) → is_between least most value ≡ true → value ≤ most
under least most value e = leb-true value most (both_hold (nat_le least value) _ e).1

high : (least most value : ℕ) → most < value → is_between least most value ≡ false
high least most value e = elim (cases_Bool (is_between least most value)) [
  | inl holds ↦ let other : value ≤ most = under least most value holds in absurd (omega arith)
  | inr fails ↦ fails
]

-- a value out of range is no number
pub below : (least most : ℕ) (word : Text) (value : ℕ) → digits_value 10 word ≡ value
    → value < least → number_in_range least most word ≡ None
below least most word value e less =
    outside least most word (low least most (digits_value 10 word) (omega (arith, e)))

pub above : (least most : ℕ) (word : Text) (value : ℕ) → digits_value 10 word ≡ value
    → most < value → number_in_range least most word ≡ None
above least most word value e more =
    outside least most word (high least most (digits_value 10 word) (omega (arith, e)))

-- what `parse` reads is the value of the digits
pub value_read : (word : Text) (value : ℕ) → is_numeral word ≡ true
    → ParsesUnsigned {E = Unit {0}} 64 10 word (Ok value) → digits_value 10 word ≡ value
value_read word value is read = sym (parsed {E = Unit {0}} word (Ok value) is read).1

-- what it does not read is in no range of 64 bits
pub not_read : (least most : ℕ) (word : Text) → most < 2 ^ 64 → is_numeral word ≡ true
    → ParsesUnsigned {E = Unit {0}} 64 10 word (Err tt) → number_in_range least most word ≡ None
not_read least most word fits is read =
    elim (cases_Bool (is_between least most (digits_value 10 word))) [
      | inl holds ↦
          let other : digits_value 10 word ≤ most = under least most (digits_value 10 word) holds in
          let some : 0 < length word = (is_number word is).some in
          absurd (parsed {E = Unit {0}} word (Err tt) is read (some, omega arith))
      | inr fails ↦ outside least most word fails
    ]

-- a number is at most the range's end
pub number_low : (least most : ℕ) (word : Text) (value : ℕ) → number_in_range least most word ≡ Some value
    → value ≤ most
unfolding number_in_range
number_low least most word value e =
    go (is_numeral word && is_between least most (digits_value 10 word)) refl e
  where
    go : (b : Bool) → (is_numeral word && is_between least most (digits_value 10 word)) ≡ b
        → (if b then Some (digits_value 10 word) else None) ≡ Some value → value ≤ most
    go true holds e =
        let between = (both_hold (is_numeral word) _ holds).1 in
        let other : digits_value 10 word ≤ most = under least most (digits_value 10 word) between in
        omega (arith, other, same_Some _ _ e)
    go false fails e = cc

-- a numeral of at most twenty digits
numeral_of : (word : Text) → IsNumeral 10 word → length word ≤ 20 → is_numeral word ≡ true
numeral_of word numeral short =
    let few : length word < 21 = omega arith in
    rw (lt-ltb _ _ numeral.0, lt-ltb _ _ few, digits.from word numeral.1) refl

-- a word that begins with a digit is no option
plain_digit : (byte : ℕ) → is_ascii_digit byte ≡ true → not (byte == 45) ≡ true
plain_digit byte is = elim (cases_Bool (byte == 45)) [
  | inl dash ↦
      let same : byte ≡ 45 = eqb-true byte 45 dash in
      let from : 48 ≤ byte = leb-true 48 byte (both_hold _ _ is).0 in
      absurd (omega (arith, same, from))
  | inr other ↦ rw other refl
]

plain_digits : (word : Text) → list_all is_ascii_digit word ≡ true → is_plain word ≡ true
plain_digits [] all = refl
plain_digits (byte ∷ []) all = refl
plain_digits (byte ∷ next ∷ rest) all = plain_digit byte (both_hold (is_ascii_digit byte) _ all).0

-- nor is one that is a number
pub plain_number : (least most : ℕ) (word : Text) (value : ℕ)
    → number_in_range least most word ≡ Some value → is_plain word ≡ true
unfolding number_in_range
plain_number least most word value e = go (is_numeral word) refl e
  where
    go : (b : Bool) → is_numeral word ≡ b
        → (if b && is_between least most (digits_value 10 word)
        then Some (digits_value 10 word) else None) ≡ Some value → is_plain word ≡ true
    go true is e = plain_digits word (is_number word is).digits
    go false is e = cc

-- what is written in decimal is a number
pub number_of-decimal : (least most n : ℕ) → least ≤ n → n ≤ most → n < 2 ^ 64
    → number_in_range least most (decimal n) ≡ Some n
number_of-decimal least most n from to fits =
    let (numeral, same) = decimal_is_IsNumeral n fits in
    let from2 : least ≤ digits_value 10 (decimal n) = omega (arith, same) in
    let to2 : digits_value 10 (decimal n) ≤ most = omega (arith, same) in
    let short : length (decimal n) ≤ 20 = length-decimal-le 20 n (omega arith) (omega arith) fits in
    inside least most (decimal n) (numeral_of (decimal n) numeral short) from2 to2 ∙ ap Some same
