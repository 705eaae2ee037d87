-- Bytes of which none passes a test, and texts of such bytes.
use Rattle.std.proofs.Common.{◌≡◌, ◌∙◌, ◌||◌, ℕ, zero, suc, ◌+◌, ◌-◌, ◌<◌, ◌≤◌, ◌^◌, Bool}
use Rattle.std.proofs.Common.{true, false, List, [], ◌∷◌, ◌++◌, length, get_or, take, drop, refl, arith, subst}
use Rattle.std.specs.Prelude.{decimal}
use Rattle.std.specs.List.{list_any, range_with_len}
use Rattle.std.specs.Str.Parse.{AllDigits}
use Rattle.std.proofs.lemmas.Fmt.{decimal_is_IsNumeral}
use Rattle.std.proofs.lemmas.List.Folds.{list_any-append}
use Rattle.std.proofs.lemmas.List.FromFn.{get_or-range_with_len}
use Rattle.std.proofs.lemmas.Str.Parse.{digit_at}
use Rattle.ds_lines.specs.Line.{is_blank, is_hash, is_newline, is_some}
use Rattle.ds_lines.specs.Print.{is_apart, HasNo, IsSomeWithout}

-- where neither of two tests holds
pub neither : (a b : Bool) → (a || b) ≡ false → (a ≡ false) × (b ≡ false)
neither true b none = absurd (cc)
neither false b none = (refl, none)

-- the first byte, and those behind it
pub lacks_parts : (p : ℕ → Bool) (byte : ℕ) (bytes : List ℕ) → HasNo p (byte ∷ bytes)
    → (p byte ≡ false) × HasNo p bytes
lacks_parts p byte bytes none = neither (p byte) (list_any p bytes) none

-- and the other way round
pub lacks_cons : (p : ℕ → Bool) (byte : ℕ) (bytes : List ℕ) → p byte ≡ false → HasNo p bytes
    → HasNo p (byte ∷ bytes)
lacks_cons p byte bytes here none = rw (here, none) refl

-- of two texts
pub lacks_both : (p : ℕ → Bool) (xs ys : List ℕ) → HasNo p xs → HasNo p ys → HasNo p (xs ++ ys)
lacks_both p xs ys none more = rw (list_any-append p xs ys, none, more) refl

-- of the first bytes
pub lacks_take : (p : ℕ → Bool) (n : ℕ) (bytes : List ℕ) → HasNo p bytes → HasNo p (take n bytes)
lacks_take p zero bytes none = refl
lacks_take p (suc n) [] none = refl
lacks_take p (suc n) (byte ∷ bytes) none =
    let (here, behind) = lacks_parts p byte bytes none in
    lacks_cons p byte (take n bytes) here (lacks_take p n bytes behind)

-- of those behind them
pub lacks_drop : (p : ℕ → Bool) (n : ℕ) (bytes : List ℕ) → HasNo p bytes → HasNo p (drop n bytes)
lacks_drop p zero bytes none = none
lacks_drop p (suc n) [] none = refl
lacks_drop p (suc n) (byte ∷ bytes) none = lacks_drop p n bytes (lacks_parts p byte bytes none).1

-- the byte at a place
pub lacks_at : (p : ℕ → Bool) (bytes : List ℕ) (k : ℕ) → k < length bytes → HasNo p bytes
    → p (get_or bytes k 0) ≡ false
lacks_at p [] k inside none = absurd (omega (arith, inside))
lacks_at p (byte ∷ bytes) zero inside none = (lacks_parts p byte bytes none).0
lacks_at p (byte ∷ bytes) (suc k) inside none =
    lacks_at p bytes k (omega (arith, inside)) (lacks_parts p byte bytes none).1

-- by a test that holds of fewer bytes
pub lacks_less : (p q : ℕ → Bool) → ((byte : ℕ) → p byte ≡ false → q byte ≡ false)
    → (bytes : List ℕ) → HasNo p bytes → HasNo q bytes
lacks_less p q less [] none = refl
lacks_less p q less (byte ∷ bytes) none =
    let (here, behind) = lacks_parts p byte bytes none in
    lacks_cons q byte bytes (less byte here) (lacks_less p q less bytes behind)

-- by two tests
pub lacks_either : (p q : ℕ → Bool) (bytes : List ℕ) → HasNo p bytes → HasNo q bytes
    → HasNo (λ byte. p byte || q byte) bytes
lacks_either p q [] none other = refl
lacks_either p q (byte ∷ bytes) none other =
    let (here, behind) = lacks_parts p byte bytes none in
    let (also, rest) = lacks_parts q byte bytes other in
    rw (here, also, lacks_either p q bytes behind rest) refl

-- a byte of a word is no blank
pub no_blank : (byte : ℕ) → is_apart byte ≡ false → is_blank byte ≡ false
no_blank byte none = (neither (is_blank byte) (is_newline byte || is_hash byte) none).0

-- nor an end of a line
pub no_newline : (byte : ℕ) → is_apart byte ≡ false → is_newline byte ≡ false
no_newline byte none =
    (neither (is_newline byte) (is_hash byte)
    (neither (is_blank byte) (is_newline byte || is_hash byte) none).1).0

-- nor a `#`
pub no_hash : (byte : ℕ) → is_apart byte ≡ false → is_hash byte ≡ false
no_hash byte none =
    (neither (is_newline byte) (is_hash byte)
    (neither (is_blank byte) (is_newline byte || is_hash byte) none).1).1

-- a text with bytes
pub some_bytes : (bytes : List ℕ) → 0 < length bytes → is_some bytes ≡ true
some_bytes [] some = absurd (omega (arith, some))
some_bytes (byte ∷ bytes) some = refl

some_both : (xs ys : List ℕ) → is_some xs ≡ true → is_some (xs ++ ys) ≡ true
some_both [] ys some = absurd (cc)
some_both (x ∷ xs) ys some = refl

-- such a text with others behind it
pub without_both : (p : ℕ → Bool) (xs ys : List ℕ) → IsSomeWithout p xs → HasNo p ys
    → IsSomeWithout p (xs ++ ys)
without_both p xs ys is none =
    record { some = some_both xs ys is.some; none = lacks_both p xs ys is.none none }

-- or by a test that holds of fewer bytes
pub without_less : (p q : ℕ → Bool) → ((byte : ℕ) → p byte ≡ false → q byte ≡ false)
    → (bytes : List ℕ) → IsSomeWithout p bytes → IsSomeWithout q bytes
without_less p q less bytes is = record { some = is.some; none = lacks_less p q less bytes is.none }

-- a number, where no digit passes the test
digit_lacks : (p : ℕ → Bool) → HasNo p (range_with_len 48 10) → (d : ℕ) → 48 ≤ d → d ≤ 57
    → p d ≡ false
digit_lacks p none d low high =
    let at : 48 + (d - 48) ≡ d = omega (arith, low) in
    subst (λ (b : ℕ). p b ≡ false)
    (get_or-range_with_len 48 10 (d - 48) 0 (omega (arith, low, high)) ∙ at)
    (lacks_at p (range_with_len 48 10) (d - 48) (omega (arith, low, high)) none)

digits_lack : (p : ℕ → Bool) → HasNo p (range_with_len 48 10) → (ds : List ℕ) → AllDigits 10 ds
    → HasNo p ds
digits_lack p none [] all = refl
digits_lack p none (d ∷ ds) all =
    let (low, high) = digit_at (d ∷ ds) 0 all (omega arith) in
    lacks_cons p d ds (digit_lacks p none d low high) (digits_lack p none ds all.1)

pub number_without : (p : ℕ → Bool) → HasNo p (range_with_len 48 10) → (n : ℕ) → n < 2 ^ 64
    → IsSomeWithout p (decimal n)
number_without p none n small =
    let (numeral, same) = decimal_is_IsNumeral n small in
    record {
      some = some_bytes (decimal n) numeral.0;
      none = digits_lack p none (decimal n) numeral.1;
    }
