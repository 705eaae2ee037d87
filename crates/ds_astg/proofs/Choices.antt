-- Tests, as booleans and as facts.
use Rattle.std.proofs.Common.{◌≡◌, ℕ, suc, ◌+◌, ◌<◌, ◌≤◌, Bool, true, false, List, [], ◌∷◌, length, refl, sym, ◌∙◌, arith, inl, inr, nat_lt, if◌then◌else◌}
use Rattle.std.specs.List.{list_any, position_or_len}
use Rattle.std.proofs.lemmas.Bool.{cases_Bool, lt-ltb, le-ltb, ltb-true, ltb-false}

-- a choice that is known
pub chosen : {X : Type 0} (test : Bool) (x y : X) → test ≡ true → (if test then x else y) ≡ x
chosen true x y e = refl
chosen false x y e = absurd (cc)

pub other : {X : Type 0} (test : Bool) (x y : X) → test ≡ false → (if test then x else y) ≡ y
other true x y e = absurd (cc)
other false x y e = refl

-- one more on both sides
later : (a b : ℕ) → nat_lt (1 + a) (suc b) ≡ nat_lt a b
later a b = elim (cases_Bool (nat_lt a b)) [
  | inl less ↦ lt-ltb (1 + a) (suc b) (let h : a < b = ltb-true a b less in omega (arith, h)) ∙ sym less
  | inr more ↦ le-ltb (1 + a) (suc b) (let h : b ≤ a = ltb-false a b more in omega (arith, h)) ∙ sym more
]

-- an element that passes is there where its place is within the list
pub any_place : {X : Type 0} (test : X → Bool) (xs : List X) → nat_lt (position_or_len test xs) (length xs) ≡ list_any test xs
any_place test [] = refl
any_place test (x ∷ xs) = elim (cases_Bool (test x)) [
  | inl here ↦ rw here (lt-ltb 0 (suc (length xs)) (omega arith))
  | inr differs ↦ rw differs (later (position_or_len test xs) (length xs) ∙ any_place test xs)
]

pub place_inside : {X : Type 0} (test : X → Bool) (xs : List X) → list_any test xs ≡ true → position_or_len test xs < length xs
place_inside test xs is = ltb-true _ _ (any_place test xs ∙ is)
