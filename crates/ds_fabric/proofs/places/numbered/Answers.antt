use Rattle.std.proofs.Common.{◌≡◌, ◌∙◌, ◌+◌, ◌<◌, ◌++◌, ◌∷◌, [], ℕ, List, ap, arith, sym, length}
use Rattle.std.proofs.Common.{get_or, length-append}
use mathlib.Core.Logic.{dite}
use native.Mathlib.Decide.{ℕ_discrete}
use Rattle.ds_rule.proofs.GetElemLemmas.{get-first, get-second}
use Rattle.ds_fabric.proofs.places.numbered.Goals as goal

-- one place more
more : (xs : List ℕ) (i k : ℕ) → length xs ≡ i → ((j : ℕ) → j < i → get_or xs j 0 ≡ j + 1)
    → k < i + 1
    → get_or (xs ++ (i + 1) ∷ []) k 0 ≡ k + 1
more xs i k long old h = dite (ℕ_discrete k i)
    (λ e. let z : k ≡ length xs + 0 = omega arith in
    ap (λ (x : ℕ). get_or (xs ++ (i + 1) ∷ []) x 0) z
    ∙ (get-second xs ((i + 1) ∷ []) (length xs) 0 (Rattle.std.proofs.Common.refl)
    ∙ omega arith))
    (λ n. get-first xs ((i + 1) ∷ []) k (omega arith) ∙ old k (omega arith))

pub loop-i-preserved : goal.loop-i-preserved
loop-i-preserved c = let xs : List ℕ = c.loop-i.places.items in let i : ℕ = c.loop-i.i in
    let inv = c.loop-i.invariant in (
      ap (λ (ys : List ℕ). length ys) c.in_ok-push.ensures.items
          ∙ omega (arith, length-append xs ((i + 1) ∷ []), inv.0),
      λ k h. ap (λ (ys : List ℕ). get_or ys k 0) c.in_ok-push.ensures.items ∙ more xs i k inv.0 inv.1 h,
    )
