-- The front of a list, element by element.
use Rattle.std.proofs.Common.{◌≡◌, ◌≢◌, ◌∙◌, ◌⊎◌, ℕ, ◌+◌, ◌<◌, List, [], ◌∷◌, ◌++◌, length, get_or}
use Rattle.std.proofs.Common.{take, sym, ap, subst, arith, inl, inr, length-append, Result, Ok, Err}
use Rattle.std.specs.Prelude.{AllPairs, Any, Contains, IfOk}
use Rattle.std.proofs.lemmas.Bool.{cases_lt}
use Rattle.std.proofs.lemmas.List.{get_or-take, get_or_append_left, get_or_push, length-take-le}
use Rattle.std.proofs.lemmas.List.{take_more}
use Rattle.ds_base.proofs.ListLemmas.{get_or-default}

-- where no two are the same, what comes next has not come
pub not_before : (xs : List ℕ) → AllPairs (λ a b. a ≢ b) xs → (i : ℕ) → i < length xs
    → ¬ Contains (take i xs) (get_or xs i 0)
not_before xs once i inside (k, low, is) =
    let few : length (take i xs) ≡ i = length-take-le i xs (omega (inside, arith)) in
    let below : k < i = omega (low, few, arith) in
    let read : get_or (take i xs) k 0 ≡ get_or xs k 0 = get_or-take i xs k 0 below in
    let same : get_or (take i xs) k (get_or xs i 0) ≡ get_or (take i xs) k 0 =
    get_or-default (take i xs) k (get_or xs i 0) 0 low in
    once k i 0 below inside (sym read ∙ (sym same ∙ is))

pub any_left : {X : Type 0} (P : X → Type 0) (xs ys : List X) → Any P xs → Any P (xs ++ ys)
any_left P xs ys (k, x, inside, is, p) =
    (k, x, omega (inside, length-append xs ys, arith), get_or_append_left xs ys x k inside ∙ is, p)

pub any_cases : {X : Type 0} (P : X → Type 0) (xs : List X) (x : X) → Any P (xs ++ x ∷ [])
    → Any P xs ⊎ P x
any_cases P xs x (k, y, inside, is, p) = elim (cases_lt k (length xs)) [
  | inl low ↦ inl (k, y, low, sym (get_or_append_left xs (x ∷ []) y k low) ∙ is, p)
  | inr past ↦
      (let end : length xs ≡ k = omega (inside, past, length-append xs (x ∷ []), arith) in
      inr (subst P (sym is ∙ get_or_push xs x y k end) p))
]

-- what follows where there is an answer
pub if_ok : {T E : Type 0} (r : Result T E) (P Q : T → Type 0) → ((x : T) → P x → Q x)
    → IfOk r P → IfOk r Q
if_ok (Ok x) P Q so is = so x is
if_ok (Err e) P Q so is = tt

-- the front with one item more
pub take_item : {X : Type 0} (xs : List X) (i : ℕ) (x : X) → i < length xs → x ≡ get_or xs i x
    → take (i + 1) xs ≡ take i xs ++ x ∷ []
take_item xs i x inside is =
    take_more xs i x inside ∙ ap (λ y. take i xs ++ y ∷ []) (sym is)
