-- Lemmas of borders that are put one behind the other.
use Rattle.std.proofs.Common.{◌≡◌, ◌∙◌, ℕ, ◌+◌, ◌<◌, ◌≤◌, ◌++◌, ◌∷◌, [], List, ap, arith, get_or, le_of_eq, length, length-append, refl, subst, sym}
use mathlib.Core.Logic.{dite}
use native.Mathlib.Decide.{ℕ_discrete}
use Rattle.ds_rule.proofs.GetElemLemmas.{get-first, get-second}
use Rattle.ds_runner.specs.Parts.{AreBorders}

-- borders that rise, none of them behind the last place
pub record RiseTo (borders : List ℕ) (last : ℕ) : Type 0 where
  pub below : (j : ℕ) → j < length borders → get_or borders j 0 ≤ last
  pub rise : (j : ℕ) → j + 1 < length borders → get_or borders j 0 ≤ get_or borders (j + 1) 0

at_seam : (xs : List ℕ) (x j : ℕ) → j ≡ length xs → get_or (xs ++ x ∷ []) j 0 ≡ x
at_seam xs x j e = let z : j ≡ length xs + 0 = omega (arith, e) in
    ap (λ (k : ℕ). get_or (xs ++ x ∷ []) k 0) z ∙ get-second xs (x ∷ []) (length xs) 0 refl

-- a list with one item more
pub one_longer : {A : Type 0} (xs ys : List A) (x : A) → ys ≡ xs ++ x ∷ [] → length ys ≡ length xs + 1
one_longer {A = A} xs ys x is = ap (λ (zs : List A). length zs) is ∙ length-append xs (x ∷ [])

-- one border more
pub one_more_border : (xs ys : List ℕ) (last x : ℕ) → RiseTo xs last → last ≤ x → ys ≡ xs ++ x ∷ [] → RiseTo ys x
one_more_border xs ys last x rises up is = subst (λ (zs : List ℕ). RiseTo zs x) (sym is) (
    let long : length (xs ++ x ∷ []) ≡ length xs + 1 = length-append xs (x ∷ []) in record {
      below = λ j near. dite (ℕ_discrete j (length xs))
          (λ e. le_of_eq (at_seam xs x j e))
          (λ n. let here : j < length xs = omega (arith, near, n, long) in
          omega (arith, get-first xs (x ∷ []) j here, rises.below j here, up));
      rise = λ j near. let first : j < length xs = omega (arith, near, long) in
          let left : get_or (xs ++ x ∷ []) j 0 ≡ get_or xs j 0 = get-first xs (x ∷ []) j first in
          dite (ℕ_discrete (j + 1) (length xs))
          (λ e. omega (arith, at_seam xs x (j + 1) e, left, rises.below j first, up))
          (λ n. let here : j + 1 < length xs = omega (arith, near, n, long) in
          omega (arith, get-first xs (x ∷ []) (j + 1) here, left, rises.rise j here));
    })

-- with the number of nodes behind the last one they are those of all parts
pub are_borders : (nodes parts last : ℕ) (xs ys : List ℕ) → RiseTo xs last → length xs ≡ parts → last ≤ nodes
    → ys ≡ xs ++ nodes ∷ [] → AreBorders nodes parts ys
are_borders nodes parts last xs ys rises long low is =
    let all : RiseTo ys nodes = one_more_border xs ys last nodes rises low is in
    let longer : length ys ≡ length xs + 1 = one_longer xs ys nodes is in record {
      long = omega (arith, longer, long);
      last = ap (λ (zs : List ℕ). get_or zs parts 0) is ∙ at_seam xs nodes parts (sym long);
      rise = λ j near. all.rise j (omega (arith, near, longer, long));
    }
