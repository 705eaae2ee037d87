-- A list without repeats whose elements all stand in another is not longer.
use Rattle.std.proofs.Common.{◌≡◌, ◌≢◌, ◌⊎◌, inl, inr, ℕ, zero, suc, ◌<◌, ◌≤◌, List, [], ◌∷◌, length, get_or, refl, sym, ap, arith, All, AllPairs, Contains, ◌∙◌}
use Rattle.std.proofs.lemmas.Bool.{cases_eq, cases_lt}
use Rattle.std.proofs.lemmas.List.Elements.{All-head, All-tail}
use Rattle.ds_marked.specs.declared.marked.Event.{Event}
use Rattle.ds_marked.specs.declared.marked.Kind.TheVariants.{Rise}

-- stands for an event past the end of a list
pub some_event : Event
some_event = record { signal = []; kind = Rise }

module _ {X : Type 0} where
  pub in_head : (y : X) (ys : List X) → Contains (y ∷ ys) y
  in_head y ys = (0, omega arith, refl)

  pub in_tail : (y : X) (ys : List X) (x : X) → Contains ys x → Contains (y ∷ ys) x
  in_tail y ys x (k, inside, is) = (suc k, omega arith, is)

  pub in_which : (y : X) (ys : List X) (x : X) → Contains (y ∷ ys) x → (y ≡ x) ⊎ Contains ys x
  in_which y ys x (zero, inside, is) = inl is
  in_which y ys x (suc k, inside, is) = inr (k, omega arith, is)

  -- the list without one element
  record Without (ys : List X) (x : X) : Type 0 where
    rest : List X
    size : length ys ≡ suc (length rest)
    others : (y : X) → Contains ys y → y ≢ x → Contains rest y

  without : (ys : List X) (x : X) → Contains ys x → Without ys x
  without [] x (k, inside, is) = absurd (let h : k < 0 = inside in omega arith)
  without (y ∷ ys) x (zero, inside, is) = record {
    rest = ys;
    size = refl;
    others = λ z has differs. elim (in_which y ys z has) [ inl e ↦ absurd (differs (sym e ∙ is)) | inr there ↦ there ];
  }
  without (y ∷ ys) x (suc k, inside, is) =
      let w : Without ys x = without ys x (k, omega arith, is) in
      let size : length ys ≡ suc (length w.rest) = w.size in record {
        rest = y ∷ w.rest;
        size = ap suc size;
        others = λ z has differs. elim (in_which y ys z has) [
          | inl e ↦ rw (sym e) (in_head y w.rest)
          | inr there ↦ in_tail y w.rest z (w.others z there differs)
        ];
      }

  pub tail_pairs : (x : X) (xs : List X) → AllPairs (λ a b. a ≢ b) (x ∷ xs) → AllPairs (λ a b. a ≢ b) xs
  tail_pairs x xs once i j d below inside = once (suc i) (suc j) d (omega arith) (omega arith)

  pub no_more : (xs ys : List X) → AllPairs (λ a b. a ≢ b) xs → All (Contains ys) xs → length xs ≤ length ys
  no_more [] ys once all = omega arith
  no_more (x ∷ xs) ys once all =
      let w : Without ys x = without ys x (All-head (Contains ys) x xs all) in
      let more : All (Contains w.rest) xs = λ k d inside. w.others (get_or xs k d) (All-tail (Contains ys) x xs all k d inside)
      (λ e. once 0 (suc k) d (omega arith) (omega arith) (sym e)) in
      let shorter : length xs ≤ length w.rest = no_more xs w.rest (tail_pairs x xs once) more in
      let size : length ys ≡ suc (length w.rest) = w.size in
      omega arith

  -- an element has one place in a list without repeats
  pub one_place : (xs : List X) → AllPairs (λ a b. a ≢ b) xs → (i j : ℕ) (d : X) → i < length xs → j < length xs
      → get_or xs i d ≡ get_or xs j d → i ≡ j
  one_place xs once i j d low high same = elim (cases_eq i j) [
    | inl e ↦ e
    | inr ne ↦ elim (cases_lt i j) [
      | inl below ↦ absurd (once i j d below high same)
      | inr above ↦ absurd (once j i d (omega arith) low (sym same))
    ]
  ]
