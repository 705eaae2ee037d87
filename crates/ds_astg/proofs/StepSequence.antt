-- Steps one after another.
use Rattle.std.proofs.Common.{◌≡◌, ℕ, suc, ◌+◌, ◌<◌, List, [], length, get_or, drop, Result, Ok, refl, sym, ◌∙◌, ap, subst, arith, Bor}
use Rattle.std.proofs.lemmas.List.{length-map}
use Rattle.std.proofs.Math.Seq.{drop-cons}
use Rattle.ds_lines.specs.Words.{texts, word_at}
use Rattle.ds_astg.specs.Turn.{then_do, all_of}
use Rattle.ds_astg.specs.declared.fault.AstgKind.{AstgKind}
use Rattle.ds_base.specs.declared.refusal.Refusal.{Refusal}
use Rattle.ds_base.specs.declared.refusal.Refusal.TheVariants.{Memory, Fault}
use Rattle.ds_base.specs.Refusal.{RefusesAs}

-- a step that is done, and one that has a fault
pub then_ok : {A B : Type 0} (r : Result A AstgKind) (a : A) (next : A → Result B AstgKind) → r ≡ Ok a → then_do r next ≡ next a
then_ok r a next e = rw e refl

pub then_fault : {A B : Type 0} (e : Refusal AstgKind) (r : Result A AstgKind) (next : A → Result B AstgKind) → RefusesAs e r → RefusesAs e (then_do r next)
then_fault Memory r next is = tt
then_fault (Fault kind) r next is = rw is refl

-- the same fault under another name of what is defined
pub same_fault : {A : Type 0} (e : Refusal AstgKind) (r other : Result A AstgKind) → other ≡ r → RefusesAs e r → RefusesAs e other
same_fault e r other is fault = subst (RefusesAs e) (sym is) fault

module _ {X S : Type 0} (step : X → S → Result S AstgKind) (xs : List X) (i : ℕ) (d : X) (s : S) (all : Result S AstgKind)
    (inside : i < length xs) (so_far : all ≡ all_of step (drop i xs) s) where
  here : all ≡ then_do (step (get_or xs i d) s) (all_of step (drop (suc i) xs))
  here = so_far ∙ ap (λ (ys : List X). all_of step ys s) (drop-cons xs i d inside)

  pub turn_fault : (e : Refusal AstgKind) → RefusesAs e (step (get_or xs i d) s) → RefusesAs e all
  turn_fault e fault = same_fault e _ all here (then_fault e (step (get_or xs i d) s) (all_of step (drop (suc i) xs)) fault)

  pub turn_ok : (next : S) → step (get_or xs i d) s ≡ Ok next → all ≡ all_of step (drop (i + 1) xs) next
  turn_ok next is = here ∙ (then_ok (step (get_or xs i d) s) next (all_of step (drop (suc i) xs)) is
      ∙ ap (λ (k : ℕ). all_of step (drop k xs) next) (let e : suc i ≡ i + 1 = omega arith in e))

-- the same over words that references point to
module _ {S : Type 0} (step : List ℕ → S → Result S AstgKind) (words : List (Bor (List ℕ))) (i : ℕ) (word : List ℕ) (s : S) (all : Result S AstgKind)
    (inside : i < length words) (is : word ≡ word_at (texts words) i) (so_far : all ≡ all_of step (drop i (texts words)) s) where
  within : i < length (texts words)
  within = rw (length-map words (λ (w : Bor (List ℕ)). w.now)) inside

  pub word_fault : (e : Refusal AstgKind) → RefusesAs e (step word s) → RefusesAs e all
  word_fault e fault = turn_fault step (texts words) i [] s all within so_far e (subst (λ (w : List ℕ). RefusesAs e (step w s)) is fault)

  pub word_ok : (next : S) → step word s ≡ Ok next → all ≡ all_of step (drop (i + 1) (texts words)) next
  word_ok next done = turn_ok step (texts words) i [] s all within so_far next (subst (λ (w : List ℕ). step w s ≡ Ok next) is done)
