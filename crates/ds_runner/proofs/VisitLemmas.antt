-- Lemmas of a visit: the pass of a node is taken, stepped and given back.
use Rattle.std.proofs.Common.{◌≡◌, ℕ, ◌∙◌, sym, subst, false}
use mathlib.Core.Logic.{dite}
use native.Mathlib.Decide.{ℕ_discrete}
use Rattle.ds_runner.specs.TurnstileRule.{HasNone, has_out}
use Rattle.ds_runner.specs.Shown.{TakesPass, GivesBack}
use Rattle.ds_runner.specs.declared.turn_view.TurnView.{TurnView}

-- nor after a pass that was taken came back
pub given_none : (v u w : TurnView) (l f h : ℕ) → HasNone v → TakesPass v u l f → GivesBack u w l h → HasNone w
given_none v u w l f h none t k j = dite (ℕ_discrete j l)
    (λ e. subst (λ i. has_out w i ≡ false) (sym e) k.free)
    (λ away. (k.others j away).0 ∙ ((t.others j away).0 ∙ none j))
