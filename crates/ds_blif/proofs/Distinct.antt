-- Names of which none was seen before differ from each other.
use Rattle.std.proofs.Common.{◌≡◌, ◌≢◌, ◌∙◌, ℕ, true, false, ◌||◌, List, [], ◌∷◌, ◌++◌, sym}
use Rattle.std.proofs.Common.{subst, refl, arith}
use Rattle.std.specs.List.{AllPairs, AllByRecursion, list_any}
use Rattle.std.specs.Str.{bytes_eq}
use Rattle.std.proofs.lemmas.Bool.{false≢true}
use Rattle.std.proofs.lemmas.Slice.Eq.{bytes_eq-Decides}
use Rattle.std.proofs.lemmas.List.Folds.{list_any-append}
use Rattle.std.proofs.lemmas.List.Elements.{All-from_recursion}
use Rattle.std.proofs.lemmas.List.Kept.{AllPairs-cons}

-- the name of each element is none that was seen, and none of an element before it
abbrev pub AreNew : {X : Type 0} → (X → List ℕ) → List (List ℕ) → List X → Type 0
AreNew name seen [] = Unit {0}
AreNew name seen (x ∷ xs) = (list_any (bytes_eq (name x)) seen ≡ false)
    × AreNew name (seen ++ name x ∷ []) xs

-- a name that was seen differs from one that was not
differs_from_seen : (one word : List ℕ) (seen : List (List ℕ))
    → list_any (bytes_eq one) seen ≡ true → list_any (bytes_eq word) seen ≡ false → one ≢ word
differs_from_seen one word seen is not_in same = false≢true (sym not_in
    ∙ subst (λ (w : List ℕ). list_any (bytes_eq w) seen ≡ true) same is)

seen_more : (one : List ℕ) (seen more : List (List ℕ)) → list_any (bytes_eq one) seen ≡ true
    → list_any (bytes_eq one) (seen ++ more) ≡ true
seen_more one seen more is = rw (list_any-append (bytes_eq one) seen more, is) refl

seen_last : (one : List ℕ) (seen : List (List ℕ))
    → list_any (bytes_eq one) (seen ++ one ∷ []) ≡ true
seen_last one [] = let same : bytes_eq one one ≡ true = (bytes_eq-Decides one one).1 refl in
    rw same refl
seen_last one (other ∷ seen) = elim (bytes_eq one other) as
    (λ b. (b || list_any (bytes_eq one) (seen ++ one ∷ [])) ≡ true)
    [ true ↦ refl | false ↦ seen_last one seen ]

all_differ : {X : Type 0} (name : X → List ℕ) (one : List ℕ) (seen : List (List ℕ)) (xs : List X)
    → list_any (bytes_eq one) seen ≡ true → AreNew name seen xs
    → AllByRecursion (λ x. one ≢ name x) xs
all_differ name one seen [] is new = tt
all_differ name one seen (x ∷ xs) is new = (
  differs_from_seen one (name x) seen is new.0,
  all_differ name one (seen ++ name x ∷ []) xs (seen_more one seen (name x ∷ []) is) new.1,
)

pub distinct_from_new : {X : Type 0} (name : X → List ℕ) (seen : List (List ℕ)) (xs : List X)
    → AreNew name seen xs → AllPairs (λ one other. name one ≢ name other) xs
distinct_from_new name seen [] new = λ i j d before within. absurd (omega arith)
distinct_from_new name seen (x ∷ xs) new = AllPairs-cons
    (λ one other. name one ≢ name other) x xs
    (All-from_recursion (λ other. name x ≢ name other) xs
    (all_differ name (name x) (seen ++ name x ∷ []) xs (seen_last (name x) seen) new.1))
    (distinct_from_new name (seen ++ name x ∷ []) xs new.1)
