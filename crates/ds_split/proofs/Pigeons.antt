-- How many different elements a list can have.
use Rattle.std.proofs.Common.{◌≡◌, ◌≢◌, inl, inr, zero, suc, ◌+◌, ◌<◌, ◌≤◌, List, [], ◌∷◌, ◌++◌, length, refl, sym, ◌∙◌, ap, subst, arith, length-append}
use Rattle.std.specs.Prelude.{AllPairs, Contains}
use Rattle.std.proofs.lemmas.List.Elements.{Contains-append_cases, Contains-append_left, Contains-append_right}

module _ {X : Type 0} where
  -- an element with what stands before and behind it
  pub record IsCut (ys : List X) (x : X) : Type 0 where
    pub before : List X
    pub behind : List X
    pub cut : ys ≡ before ++ x ∷ behind

  pub cut_at : (ys : List X) (x : X) → Contains ys x → IsCut ys x
  cut_at [] x (k, inside, is) = absurd (let h : k < 0 = inside in omega arith)
  cut_at (y ∷ ys) x (zero, inside, is) = record { before = []; behind = ys; cut = ap (λ z. z ∷ ys) is }
  cut_at (y ∷ ys) x (suc k, inside, is) =
      let rest = cut_at ys x (k, omega arith, is) in
      record { before = y ∷ rest.before; behind = rest.behind; cut = ap (λ zs. y ∷ zs) rest.cut }

  pub pairs-tail : (x : X) (xs : List X) → AllPairs (λ a b. a ≢ b) (x ∷ xs) → AllPairs (λ a b. a ≢ b) xs
  pairs-tail x xs pairs i j d below inside = pairs (suc i) (suc j) d (omega arith) (omega arith)

  pub head_apart : (x : X) (xs : List X) → AllPairs (λ a b. a ≢ b) (x ∷ xs) → (y : X) → Contains xs y → x ≢ y
  head_apart x xs pairs y (k, inside, is) e = pairs 0 (suc k) y (omega arith) (omega arith) (e ∙ sym is)

  -- without an element all others are still there
  others : (before behind : List X) (x y : X) → Contains (before ++ x ∷ behind) y → x ≢ y → Contains (before ++ behind) y
  others before behind x y is differs = elim (Contains-append_cases before (x ∷ behind) y is) [
    | inl first ↦ Contains-append_left before behind y first
    | inr rest ↦ Contains-append_right before behind y (tail rest)
  ]
    where
      tail : Contains (x ∷ behind) y → Contains behind y
      tail (zero, inside, at) = absurd (differs at)
      tail (suc k, inside, at) = (k, omega arith, at)

  -- different elements of a list are no more than the list is long
  pub few_different : (xs ys : List X) → AllPairs (λ a b. a ≢ b) xs → ((x : X) → Contains xs x → Contains ys x)
      → length xs ≤ length ys
  few_different [] ys pairs within = omega arith
  few_different (x ∷ xs) ys pairs within =
      let c = cut_at ys x (within x (0, omega arith, refl)) in
      let less : length xs ≤ length (c.before ++ c.behind) =
      few_different xs (c.before ++ c.behind) (pairs-tail x xs pairs) (λ y is.
      others c.before c.behind x y
      (subst (λ (zs : List X). Contains zs y) c.cut (within y (let (k, inside, at) = is in (suc k, omega arith, at))))
      (head_apart x xs pairs y is)) in
      let one : length (c.before ++ c.behind) ≡ length c.before + length c.behind = length-append c.before c.behind in
      let more : length ys ≡ length c.before + length (x ∷ c.behind) =
      ap length c.cut ∙ length-append c.before (x ∷ c.behind) in
      omega arith
