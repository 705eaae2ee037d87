-- Clusters by their places are a grouping.
use Rattle.std.proofs.Common.{◌≡◌, ◌≢◌, inl, inr, ℕ, suc, ◌+◌, ◌-◌, ◌<◌, List, [], ◌∷◌, ◌++◌, length, get_or, sym, ◌∙◌, ap, subst, arith, length-append}
use Rattle.std.specs.Prelude.{All, AllPairs, Any, Contains}
use Rattle.std.specs.List.{flat_map}
use Rattle.std.proofs.lemmas.Bool.{cases_lt}
use Rattle.std.proofs.lemmas.List.{get_or_default}
use Rattle.std.proofs.lemmas.List.Elements.{All-from_get_or, Contains-get_or, Contains-append_cases}
use Rattle.ds_base.proofs.ListLemmas.{get_or-self}
use Rattle.ds_base.proofs.AppendedPairs.{get_or-left, get_or-right}
use Rattle.ds_split.specs.Cluster.{HasEachOnce, HaveBoth, IsGrouping}
use Rattle.ds_split.specs.Groups.{group, AreGroups}

-- no two are the same in two lists that have nothing in common
pub pairs-append : (xs ys : List ℕ) → AllPairs (λ a b. a ≢ b) xs → AllPairs (λ a b. a ≢ b) ys
    → ((x : ℕ) → Contains xs x → ¬ Contains ys x) → AllPairs (λ a b. a ≢ b) (xs ++ ys)
pairs-append xs ys one other apart i j d below inside =
    let n : length (xs ++ ys) ≡ length xs + length ys = length-append xs ys in
    elim (cases_lt j (length xs)) [
      | inl low ↦ (λ e. one i j d below low (sym (get_or-left xs ys i d (omega arith)) ∙ (e ∙ get_or-left xs ys j d low)))
      | inr high ↦ elim (cases_lt i (length xs)) [
        | inl left ↦ (λ e. apart (get_or xs i d) (Contains-get_or xs i d left) (
            let right : get_or (xs ++ ys) j d ≡ get_or ys (j - length xs) d = get_or-right xs ys (j - length xs) j d (omega arith) in
            subst (λ (y : ℕ). Contains ys y) (sym right ∙ (sym e ∙ get_or-left xs ys i d left))
            (Contains-get_or ys (j - length xs) d (omega arith))))
        | inr over ↦ (λ e. other (i - length xs) (j - length xs) d (omega arith) (omega arith)
            (sym (get_or-right xs ys (i - length xs) i d (omega arith)) ∙ (e ∙ get_or-right xs ys (j - length xs) j d (omega arith))))
      ]
    ]

-- what stands in all lists together stands in one of them
pub in_flat : (groups : List (List ℕ)) (x : ℕ) → Contains (flat_map (λ registers. registers) groups) x
    → (i : ℕ) × Contains (group groups i) x
in_flat [] x (k, inside, is) = absurd (let h : k < 0 = inside in omega arith)
in_flat (g ∷ groups) x is = elim (Contains-append_cases g (flat_map (λ registers. registers) groups) x is) [
  | inl first ↦ (0, first)
  | inr rest ↦ (let (i, there) = in_flat groups x rest in (suc i, there))
]

-- no two are the same where each list has none twice and no two lists have one in common
pub flat_once : (groups : List (List ℕ)) → ((i : ℕ) → AllPairs (λ a b. a ≢ b) (group groups i))
    → ((i j x : ℕ) → Contains (group groups i) x → Contains (group groups j) x → i ≡ j)
    → AllPairs (λ a b. a ≢ b) (flat_map (λ registers. registers) groups)
flat_once [] each apart = λ i j d below inside. absurd (omega arith)
flat_once (g ∷ groups) each apart = pairs-append g (flat_map (λ registers. registers) groups) (each 0)
    (flat_once groups (λ i. each (suc i)) (λ i j x one other. let e : suc i ≡ suc j = apart (suc i) (suc j) x one other in omega arith))
    (λ x one other. let (i, there) = in_flat groups x other in let e : 0 ≡ suc i = apart 0 (suc i) x one there in absurd (omega arith))

module _ (belong : ℕ → ℕ → Type 0) (count : ℕ) (groups : List (List ℕ)) (are : AreGroups belong count groups) where
  -- a cluster with a place has what stands there
  some_group : (P : List ℕ → Type 0) (i : ℕ) → i < length groups → P (group groups i) → Any P groups
  some_group P i low p = (i, group groups i, low, get_or-self groups i [] low, p)

  each_group : (P : List ℕ → Type 0) → ((i : ℕ) → i < length groups → P (group groups i)) → All P groups
  each_group P each = All-from_get_or P groups [] each

  distinct : (i : ℕ) → AllPairs (λ a b. a ≢ b) (group groups i)
  distinct i j k d below inside e =
      let h : get_or (group groups i) j d < get_or (group groups i) k d = are.rising i j k d below inside in omega arith

  both : (i j a b : ℕ) → i ≡ j → Contains (group groups i) a → Contains (group groups j) b → i < length groups → HaveBoth groups a b
  both i j a b e one other low = some_group (λ registers. Contains registers a × Contains registers b) i low
      (one, subst (λ (k : ℕ). Contains (group groups k) b) (sym e) other)

  apart : (i j x : ℕ) → Contains (group groups i) x → Contains (group groups j) x → i ≡ j
  apart i j x one other = are.apart i j x x one other (are.together i x x one one)

  each_once : HasEachOnce count groups
  each_once = record {
    covered = λ r low. let (i, inside, is) = are.covered r low in some_group (λ registers. Contains registers r) i inside is;
    within = each_group (λ registers. All (λ r. r < count) registers)
        (λ i low. All-from_get_or (λ r. r < count) (group groups i) 0
        (λ k inside. are.within i (get_or (group groups i) k 0) (Contains-get_or (group groups i) k 0 inside)));
    once = flat_once groups distinct apart;
  }

  pub grouping : IsGrouping belong count groups
  grouping = record {
    each_once = each_once;
    together = λ a b low also. (
      (λ belongs. let (i, inside, one) = are.covered a low in let (j, within, other) = are.covered b also in
          both i j a b (are.apart i j a b one other belongs) one other inside),
      (λ have. let (i, registers, inside, is, (one, other)) = have in
          let e : registers ≡ group groups i = sym is ∙ get_or_default groups i registers [] inside in
          are.together i a b (subst (λ (g : List ℕ). Contains g a) e one) (subst (λ (g : List ℕ). Contains g b) e other)),
    );
    some = each_group (λ registers. 0 < length registers) are.some;
    rising = each_group (λ registers. AllPairs (λ a b. a < b) registers) (λ i low. are.rising i);
    by_first = λ i j d below inside.
        let low : i < length groups = omega arith in
        let e : get_or groups i d ≡ group groups i = get_or_default groups i d [] low in
        let f : get_or groups j d ≡ group groups j = get_or_default groups j d [] inside in
        let h : get_or (group groups i) 0 0 < get_or (group groups j) 0 0 = are.by_first i j below inside in
        let e0 : get_or (get_or groups i d) 0 0 ≡ get_or (group groups i) 0 0 = ap (λ g. get_or g 0 0) e in
        let f0 : get_or (get_or groups j d) 0 0 ≡ get_or (group groups j) 0 0 = ap (λ g. get_or g 0 0) f in
        omega arith;
  }
