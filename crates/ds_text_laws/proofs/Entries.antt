-- Entries of the marking that are written are read again.
use Rattle.std.proofs.Common.{◌≡◌, ℕ, suc, ◌+◌, ◌-◌, ◌*◌, ◌<◌, ◌≤◌, true, false, List, [], ◌∷◌, ◌++◌, length, take, drop, map, refl, sym, ◌∙◌, ap, arith, inl, inr, Some, ◌==◌, decimal, nat_lt, length-append, append_assoc, append-nil}
use Rattle.std.specs.List.{list_any, list_all, position_or_len, before_first, after_first}
use Rattle.std.specs.Char.{is_ascii_digit}
use Rattle.std.specs.Int.Digits.{digits_of, AllBelowBase, number_from_digits_after}
use Rattle.std.proofs.lemmas.Int.Digits.{all_below_base_digits_of, number_digits_of, length-digits_of-le}
use Rattle.std.proofs.lemmas.Bool.{cases_Bool, false≢true, lt-ltb, le-ltb, le-leb, eqb-false, ltb-false}
use Rattle.std.proofs.lemmas.Fmt.{decimal-digits_of}
use Rattle.std.proofs.lemmas.List.{length-map}
use Rattle.std.proofs.Math.Seq.{take-append_seam}
use Rattle.ds_astg.specs.Word.{is_byte, last_byte, without_last}
use Rattle.ds_astg.specs.Node.{event_in}
use Rattle.ds_astg.specs.Place.Key.{Between}
use Rattle.ds_astg.specs.Marking.{number_in, value_from, key_in, key_between, both_events}
use Rattle.ds_astg.specs.Text.{tokens_text}
use Rattle.ds_text_laws.specs.AstgLaws.{TokensAreRead, EndsAreRead}
use Rattle.ds_text_laws.proofs.WrittenWords.{last_is, front_is}

-- the place of the first such byte
position_seam : (byte : ℕ) (word more : List ℕ) → list_any (is_byte byte) word ≡ false → position_or_len (is_byte byte) (word ++ byte ∷ more) ≡ length word
position_seam byte [] more none = rw (same byte) refl
  where
    same : (n : ℕ) → (n == n) ≡ true
    same n = elim (cases_Bool (n == n)) [
      | inl e ↦ e
      | inr ne ↦ absurd (eqb-false n n ne refl)
    ]
position_seam byte (first ∷ word) more none = elim (cases_Bool (is_byte byte first)) [
  | inl e ↦ absurd (let h : list_any (is_byte byte) (first ∷ word) ≡ true = rw e refl in false≢true (sym none ∙ h))
  | inr e ↦ rw e (let rest : list_any (is_byte byte) word ≡ false = (let h : list_any (is_byte byte) (first ∷ word) ≡ list_any (is_byte byte) word = rw e refl in sym h ∙ none) in
      let p = position_seam byte word more rest in omega (arith, p))
]

position_none : (byte : ℕ) (word : List ℕ) → list_any (is_byte byte) word ≡ false → position_or_len (is_byte byte) word ≡ length word
position_none byte [] none = refl
position_none byte (first ∷ word) none = elim (cases_Bool (is_byte byte first)) [
  | inl e ↦ absurd (let h : list_any (is_byte byte) (first ∷ word) ≡ true = rw e refl in false≢true (sym none ∙ h))
  | inr e ↦ rw e (let rest : list_any (is_byte byte) word ≡ false = (let h : list_any (is_byte byte) (first ∷ word) ≡ list_any (is_byte byte) word = rw e refl in sym h ∙ none) in
      let p = position_none byte word rest in omega (arith, p))
]

-- what stands before it and behind it
before_seam : (byte : ℕ) (word more : List ℕ) → list_any (is_byte byte) word ≡ false → before_first (is_byte byte) (word ++ byte ∷ more) ≡ word
before_seam byte word more none = ap (λ (n : ℕ). take n (word ++ byte ∷ more)) (position_seam byte word more none) ∙ take-append_seam word (byte ∷ more)

drop_seam : (word : List ℕ) (byte : ℕ) (more : List ℕ) → drop (length word + 1) (word ++ byte ∷ more) ≡ more
drop_seam [] byte more = refl
drop_seam (first ∷ word) byte more = ap (λ (n : ℕ). drop n (first ∷ (word ++ byte ∷ more))) (let e : suc (length word) + 1 ≡ suc (length word + 1) = omega arith in e) ∙ drop_seam word byte more

behind_seam : (byte : ℕ) (word more : List ℕ) → list_any (is_byte byte) word ≡ false → after_first (is_byte byte) (word ++ byte ∷ more) ≡ more
behind_seam byte word more none = ap (λ (n : ℕ). drop (n + 1) (word ++ byte ∷ more)) (position_seam byte word more none) ∙ drop_seam word byte more

take_whole : (word : List ℕ) → take (length word) word ≡ word
take_whole [] = refl
take_whole (byte ∷ word) = ap (λ (w : List ℕ). byte ∷ w) (take_whole word)

-- the value of written digits
pub value_digits : (n : ℕ) (ds : List ℕ) → value_from n (map (λ d. 48 + d) ds) ≡ number_from_digits_after 10 n ds
value_digits n [] = refl
value_digits n (d ∷ ds) = ap (λ (k : ℕ). value_from k (map (λ e. 48 + e) ds)) (let e : 10 * n + (48 + d - 48) ≡ n * 10 + d = omega arith in e) ∙ value_digits (n * 10 + d) ds

digits_all : (ds : List ℕ) → AllBelowBase 10 ds → list_all is_ascii_digit (map (λ d. 48 + d) ds) ≡ true
digits_all [] below = refl
digits_all (d ∷ ds) below = rw (one d below.0) (digits_all ds below.1)
  where
    one : (d : ℕ) → d < 10 → is_ascii_digit (48 + d) ≡ true
    one d less = rw (le-leb 48 (48 + d) (omega arith), le-leb (48 + d) 57 (omega (arith, less))) refl

number_read : (n : ℕ) → 0 < n → n < 256 → number_in (decimal n) ≡ Some n
number_read n some few =
    let text_is : decimal n ≡ map (λ d. 48 + d) (digits_of 10 n) = decimal-digits_of n some (omega (arith, few)) in
    let size : length (decimal n) ≡ length (digits_of 10 n) = ap (λ (t : List ℕ). length t) text_is ∙ length-map (digits_of 10 n) (λ d. 48 + d) in
    let short : length (digits_of 10 n) ≤ 3 = length-digits_of-le 10 3 n (omega arith) (omega (arith, few)) in
    let all : list_all is_ascii_digit (decimal n) ≡ true = ap (λ (t : List ℕ). list_all is_ascii_digit t) text_is ∙ digits_all (digits_of 10 n) (all_below_base_digits_of 10 n (omega arith)) in
    let value : value_from 0 (decimal n) ≡ n = ap (λ (t : List ℕ). value_from 0 t) text_is ∙ (value_digits 0 (digits_of 10 n) ∙ number_digits_of 10 n (omega arith)) in
    let there : 0 < length (decimal n) = not_empty (decimal n) (λ e. omega (arith, some, value, ap (λ (t : List ℕ). value_from 0 t) e)) in
    rw (lt-ltb 0 (length (decimal n)) there, lt-ltb (length (decimal n)) 4 (omega (arith, size, short)), all, value, lt-ltb n 256 few) refl
  where
    not_empty : (t : List ℕ) → (t ≡ [] → ⊥) → 0 < length t
    not_empty [] no_text = absurd (no_text refl)
    not_empty (byte ∷ t) no_text = omega arith

-- the tokens and the place of an entry
pub tokens_are_read : TokensAreRead
tokens_are_read text tokens none some few = elim (cases_Bool (nat_lt 1 tokens)) [
  | inl many ↦ (
      let tail : tokens_text tokens ≡ 61 ∷ decimal tokens = rw many refl in
      let place : position_or_len (is_byte 61) (text ++ 61 ∷ decimal tokens) ≡ length text = position_seam 61 text (decimal tokens) none in
      let inside : nat_lt (length text) (length (text ++ 61 ∷ decimal tokens)) ≡ true = lt-ltb _ _ (let l = length-append text (61 ∷ decimal tokens) in omega (arith, l)) in
      rw tail (before_seam 61 text (decimal tokens) none, rw (place, inside) (ap number_in (drop_seam text 61 (decimal tokens)) ∙ number_read tokens some few)))
  | inr one ↦ (
      let h : tokens ≤ 1 = ltb-false 1 tokens one in
      let is_one : tokens ≡ 1 = omega (arith, h, some) in
      let tail : tokens_text tokens ≡ [] = rw one refl in
      let place : position_or_len (is_byte 61) text ≡ length text = position_none 61 text none in
      let outside : nat_lt (length text) (length text) ≡ false = le-ltb _ _ (omega arith) in
      rw (tail, append-nil text) (rw place (take_whole text), rw (place, outside, is_one) refl))
]

-- the ends of an entry
pub ends_are_read : EndsAreRead
ends_are_read signals source target u v from to none =
    let text : List ℕ = source ++ 44 ∷ (target ++ 62 ∷ []) in
    let last : last_byte text ≡ 62 = ap last_byte (sym (append_assoc source (44 ∷ target) (62 ∷ []))) ∙ last_is (source ++ 44 ∷ target) 62 in
    let first : before_first (is_byte 44) text ≡ source = before_seam 44 source (target ++ 62 ∷ []) none in
    let second : without_last (after_first (is_byte 44) text) ≡ target = ap without_last (behind_seam 44 source (target ++ 62 ∷ []) none) ∙ front_is target 62 in
    let here : key_between signals text ≡ both_events (event_in signals source) (event_in signals target) =
    rw last (ap (λ (t : List ℕ). both_events (event_in signals t) (event_in signals (without_last (after_first (is_byte 44) text)))) first
    ∙ ap (λ (t : List ℕ). both_events (event_in signals source) (event_in signals t)) second) in
    let start : key_in signals (60 ∷ text) ≡ key_between signals text = refl in
    let place : both_events (event_in signals source) (event_in signals target) ≡ Some (Between u v) = rw (from, to) refl in
    let shape : ((source ++ 44 ∷ []) ++ target) ++ 62 ∷ [] ≡ text = append_assoc (source ++ 44 ∷ []) target (62 ∷ []) ∙ append_assoc source (44 ∷ []) (target ++ 62 ∷ []) in
    ap (λ (t : List ℕ). key_in signals (60 ∷ t)) shape ∙ (start ∙ (here ∙ place))
