-- Keys that are references, and the words that they point to.
use Rattle.std.proofs.Common.{◌≡◌, ℕ, ◌+◌, Bool, not, cond, List, [], ◌∷◌, ◌++◌, map, refl, sym, ap}
use Rattle.std.proofs.Common.{◌∙◌, Bor, ◌||◌, if◌then◌else◌, inl, inr, length, Some, None}
use Rattle.std.proofs.Common.{nat_lt, ◌≤◌, arith}
use Rattle.std.specs.List.{list_any, position_or_len, position}
use Rattle.std.proofs.lemmas.List.Sums.{prefix_len-le-length}
use Rattle.std.proofs.lemmas.Bool.{ltb-false}
use Rattle.std.specs.Str.{bytes_eq}
use Rattle.std.proofs.lemmas.List.{map-append}
use Rattle.std.proofs.lemmas.Bool.{cases_Bool}
use Rattle.ds_lines.specs.Names.{has_name, place_of_name, with_name}

-- what keys point to
abbrev pub words_of : List (Bor (List ℕ)) → List (List ℕ)
words_of keys = map (λ k. k.now) keys

pub any_key : (word : List ℕ) (keys : List (Bor (List ℕ))) → list_any
    (λ k. bytes_eq word k.now) keys ≡ has_name (words_of keys) word
any_key word [] = refl
any_key word (key ∷ keys) = ap (λ b. bytes_eq word key.now || b) (any_key word keys)

pub place_key : (word : List ℕ) (keys : List (Bor (List ℕ))) → position_or_len
    (λ k. bytes_eq word k.now) keys ≡ place_of_name (words_of keys) word
place_key word [] = refl
place_key word (key ∷ keys) = ap (λ n. cond (not (bytes_eq word key.now)) (1 + n) 0)
    (place_key word keys)

pub insert_key_words : (word : Bor (List ℕ)) (keys : List (Bor (List ℕ))) → words_of (if list_any
    (λ k. bytes_eq word.now k.now) keys then keys else keys ++ word ∷ []) ≡ with_name
    (words_of keys) word.now
insert_key_words word keys = rw (← (any_key word.now keys)) (elim (cases_Bool (list_any
    (λ k. bytes_eq word.now k.now) keys)) [
      | inl here ↦ rw here refl
      | inr other ↦ rw other (map-append (λ (k : Bor (List ℕ)). k.now) keys (word ∷ []))
    ])

-- the first place where there is one, the length where there is none
pub position_some : {X : Type 0} (test : X → Bool) (keys : List X) (place : ℕ) → position test keys
    ≡ Some place → place ≡ position_or_len test keys
position_some test keys place is = elim (cases_Bool (nat_lt (position_or_len test keys)
    (length keys))) [
      | inl here ↦ (let h : position test keys ≡ Some (position_or_len test keys) = rw here refl in
          let e : Some place ≡ Some (position_or_len test keys) = sym is ∙ h in cc)
      | inr other ↦ absurd (let h : position test keys ≡ None = rw other refl in let e : Some place
          ≡ None = sym is ∙ h in cc)
    ]

pub position_none : {X : Type 0} (test : X → Bool) (keys : List X) → position test keys ≡ None
    → length keys ≡ position_or_len test keys
position_none test keys is = elim (cases_Bool (nat_lt (position_or_len test keys) (length keys))) [
  | inl here ↦ absurd (let h : position test keys ≡ Some (position_or_len test keys) =
      rw here refl in let e : None ≡ Some (position_or_len test keys) = sym is ∙ h in cc)
  | inr other ↦ (let h : length keys ≤ position_or_len test keys = ltb-false _ _ other in omega
      (arith, prefix_len-le-length (λ x. not (test x)) keys))
]
