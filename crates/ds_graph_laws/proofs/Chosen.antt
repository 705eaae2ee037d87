-- What is found in a list, and lists of what has a property, each once.
use Rattle.std.proofs.Common.{◌≡◌, ◌≢◌, ◌⊎◌, inl, inr, ℕ, zero, suc, ◌<◌, List, [], ◌∷◌, ◌++◌, get_or, refl, sym, subst, arith}
use Rattle.std.specs.Prelude.{All, AllPairs, Any, Contains}
use Rattle.std.proofs.lemmas.Bool.{cases_lt}
use Rattle.std.proofs.lemmas.List.Elements.{All-head, All-tail, Contains-append_cases, Contains-append_left, Contains-append_right}
use Rattle.ds_base.proofs.ListLemmas.{get_or-self}
use Rattle.ds_control.proofs.TwoForEach.{pairs_append}

-- an element is the first or one of the others
any_split : {X : Type 0} (P : X → Type 0) (y : X) (xs : List X) → Any P (y ∷ xs) → P y ⊎ Any P xs
any_split P y xs (zero, x, inside, is, p) = inl (subst P (sym is) p)
any_split P y xs (suc k, x, inside, is, p) = inr (k, x, omega arith, is, p)

-- where it is decided of each element of a list whether it has a property, some has or none has
pub cases_within : {X : Type 0} (P : X → Type 0) (xs : List X) → All (λ x. P x ⊎ (¬ P x)) xs → Any P xs ⊎ (¬ Any P xs)
cases_within P [] each = inr (λ c. absurd (let h : c.0 < 0 = c.2 in omega arith))
cases_within P (y ∷ xs) each =
    elim (All-head (λ x. P x ⊎ (¬ P x)) y xs each) [
      | inl p ↦ inl (0, y, omega arith, refl, p)
      | inr np ↦ elim (cases_within P xs (All-tail (λ x. P x ⊎ (¬ P x)) y xs each)) [
        | inl (k, x, inside, is, p) ↦ inl (suc k, x, omega arith, is, p)
        | inr none ↦ inr (λ c. elim (any_split P y xs c) [ inl p ↦ np p | inr d ↦ none d ])
      ]
    ]

-- some number below a limit has a property, or none has
pub cases_below : (P : ℕ → Type 0) → ((i : ℕ) → P i ⊎ (¬ P i)) → (most : ℕ)
    → ((i : ℕ) × (i < most) × P i) ⊎ ((i : ℕ) → i < most → ¬ P i)
cases_below P cases zero = inr (λ i low p. absurd (omega arith))
cases_below P cases (suc most) =
    elim (cases most) [
      | inl p ↦ inl (most, omega arith, p)
      | inr np ↦ elim (cases_below P cases most) [
        | inl (i, low, p) ↦ inl (i, omega arith, p)
        | inr none ↦ inr (λ i low p. elim (cases_lt i most) [
          | inl below ↦ none i below p
          | inr last ↦ (let e : i ≡ most = omega arith in np (subst P e p))
        ])
      ]
    ]

module _ {X : Type 0} where
  -- the elements of a list are those with a property, each once
  pub record HasExactly (P : X → Type 0) (xs : List X) : Type 0 where
    pub sound : (x : X) → Contains xs x → P x
    pub complete : (x : X) → P x → Contains xs x
    pub once : AllPairs (λ a b. a ≢ b) xs

  -- where nothing has the property the list is empty
  pub list_none : (P : X → Type 0) → ((x : X) → ¬ P x) → HasExactly P []
  list_none P none = record {
    sound = λ x (k, inside, is). absurd (let h : k < 0 = inside in omega arith);
    complete = λ x p. absurd (none x p);
    once = λ i j d below inside. absurd (let h : j < 0 = inside in omega arith);
  }

  -- the list of one element
  pub list_one : (x : X) → HasExactly (λ y. y ≡ x) (x ∷ [])
  list_one x = record {
    sound = one;
    complete = λ y e. (0, omega arith, sym e);
    once = λ i j d below inside. absurd (let h : j < 1 = inside in omega (arith, below));
  }
    where
      one : (y : X) → Contains (x ∷ []) y → y ≡ x
      one y (zero, inside, is) = sym is
      one y (suc k, inside, is) = absurd (let h : suc k < 1 = inside in omega arith)

  -- the list of what has the one property or the other, where nothing has both
  pub list_both : (P Q : X → Type 0) (xs ys : List X) → HasExactly P xs → HasExactly Q ys → ((x : X) → P x → ¬ Q x)
      → HasExactly (λ x. P x ⊎ Q x) (xs ++ ys)
  list_both P Q xs ys one other apart = record {
    sound = λ x is. elim (Contains-append_cases xs ys x is) [ inl first ↦ inl (one.sound x first) | inr rest ↦ inr (other.sound x rest) ];
    complete = λ x is. elim is [
      | inl p ↦ Contains-append_left xs ys x (one.complete x p)
      | inr q ↦ Contains-append_right xs ys x (other.complete x q)
    ];
    once = pairs_append (λ (a b : X). a ≢ b) xs ys one.once other.once (λ i d inside j e within same.
        apart (get_or xs i d) (one.sound (get_or xs i d) (i, inside, get_or-self xs i d inside))
        (subst Q (sym same) (other.sound (get_or ys j e) (j, within, get_or-self ys j e within))));
  }

  -- the same list by other words
  pub list_means : (P Q : X → Type 0) (xs : List X) → ((x : X) → P x → Q x) → ((x : X) → Q x → P x) → HasExactly P xs → HasExactly Q xs
  list_means P Q xs to from are = record {
    sound = λ x is. to x (are.sound x is);
    complete = λ x q. are.complete x (from x q);
    once = are.once;
  }
