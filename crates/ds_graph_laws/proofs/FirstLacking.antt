-- The first place of a list that lacks a property.
use Rattle.std.proofs.Common.{◌⊎◌, inl, inr, ℕ, zero, suc, List, [], ◌∷◌, arith, All}
use Rattle.std.specs.List.{AllWithin}
use Rattle.std.proofs.lemmas.List.Elements.{All-cons, All-head, All-nil, All-tail}
use Rattle.ds_accept.specs.Fault.{IsFirstWithout}

module _ {X : Type 0} (P : X → Type 0) where
  first_here : (x : X) (xs : List X) → ¬ P x → IsFirstWithout P (x ∷ xs) 0
  first_here x xs lacks = record {
    inside = omega arith;
    without = λ d. lacks;
    before = λ j d low below. absurd (omega (below, arith));
  }

  before_later : (x : X) (xs : List X) (k : ℕ) → P x → AllWithin P xs 0 k → AllWithin P (x ∷ xs) 0 (suc k)
  before_later x xs k has before zero d low below = has
  before_later x xs k has before (suc j) d low below = before j d (omega arith) (omega (below, arith))

  first_later : (x : X) (xs : List X) (k : ℕ) → P x → IsFirstWithout P xs k → IsFirstWithout P (x ∷ xs) (suc k)
  first_later x xs k has first = record {
    inside = omega (first.inside, arith);
    without = λ d. first.without d;
    before = before_later x xs k has first.before;
  }

  -- where it is decided of each item whether it has a property, each has it or there is a first place without it
  pub first_without : (xs : List X) → All (λ x. P x ⊎ (¬ P x)) xs → All P xs ⊎ ((k : ℕ) × IsFirstWithout P xs k)
  first_without [] told = inl (All-nil P)
  first_without (x ∷ xs) told = elim (All-head (λ y. P y ⊎ (¬ P y)) x xs told) [
    | inr lacks ↦ inr (0, first_here x xs lacks)
    | inl has ↦ elim (first_without xs (All-tail (λ y. P y ⊎ (¬ P y)) x xs told)) [
      | inl all ↦ inl (All-cons P x xs has all)
      | inr (k, first) ↦ inr (suc k, first_later x xs k has first)
    ]
  ]
