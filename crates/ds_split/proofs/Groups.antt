-- Clusters to which registers are added, one after another.
use Rattle.std.proofs.Common.{◌≡◌, ◌≢◌, ◌⊎◌, inl, inr, ℕ, ◌+◌, ◌<◌, ◌≤◌, rules, true, false, List, [], ◌∷◌, ◌++◌, length, get_or, set, refl, sym, ◌∙◌, ap, subst, arith, length-append, get_or-set_same, get_or-set_other}
use Rattle.std.specs.Prelude.{AllPairs, Contains, ltb}
use Rattle.std.proofs.lemmas.Bool.{cases_eq, cases_lt}
use Rattle.std.proofs.lemmas.List.{get_or_past, length-set}
use Rattle.std.proofs.lemmas.List.Elements.{Contains-push_cases, Contains-push, Contains-append_left, Contains-get_or}
use Rattle.std.proofs.lemmas.List.Quantifiers.{all_pairs_push}
use Rattle.ds_base.proofs.AppendedPairs.{get_or-left, get_or-right}
use Rattle.ds_split.specs.Groups.{group, with_member, AreGroups}

-- a register in a cluster that is there, and one in a new cluster
pub joins : (groups : List (List ℕ)) (place r : ℕ) → place < length groups
    → with_member groups place r ≡ set groups place (group groups place ++ r ∷ [])
joins groups place r inside = let is : ltb place (length groups) ≡ true = search rules in rw is refl

pub begins : (groups : List (List ℕ)) (place r : ℕ) → length groups ≤ place
    → with_member groups place r ≡ groups ++ (r ∷ []) ∷ []
begins groups place r outside = let is : ltb place (length groups) ≡ false = search rules in rw is refl

module _ (groups : List (List ℕ)) (place r : ℕ) (near : place ≤ length groups) where
  pub length-with_register : (length groups ≤ length (with_member groups place r))
      × (place < length (with_member groups place r))
      × ((i : ℕ) → i < length (with_member groups place r) → (i < length groups) ⊎ (i ≡ place))
      × (length (with_member groups place r) ≤ length groups + 1)
  length-with_register = elim (cases_lt place (length groups)) [
    | inl inside ↦ (
        let n : length (with_member groups place r) ≡ length groups =
        ap length (joins groups place r inside) ∙ length-set groups place (group groups place ++ r ∷ []) in
        (omega arith, omega arith, (λ i low. inl (omega arith)), omega arith))
    | inr outside ↦ (
        let n : length (with_member groups place r) ≡ length groups + 1 =
        ap length (begins groups place r outside) ∙ length-append groups ((r ∷ []) ∷ []) in (
          omega arith,
          omega arith,
          (λ i low. elim (cases_lt i (length groups)) [ inl l ↦ inl l | inr h ↦ inr (omega arith) ]),
          omega arith,
        ))
  ]

  pub group_here : group (with_member groups place r) place ≡ group groups place ++ r ∷ []
  group_here = elim (cases_lt place (length groups)) [
    | inl inside ↦ ap (λ gs. group gs place) (joins groups place r inside)
        ∙ get_or-set_same groups place (group groups place ++ r ∷ []) [] inside
    | inr outside ↦ (
        let at : length groups ≡ place = omega arith in
        let past : group groups place ≡ [] = get_or_past groups place [] outside in
        ap (λ gs. group gs place) (begins groups place r outside)
        ∙ (get_or-right groups ((r ∷ []) ∷ []) 0 place [] (omega arith) ∙ ap (λ g. g ++ r ∷ []) (sym past)))
  ]

  pub group_other : (i : ℕ) → i ≢ place → group (with_member groups place r) i ≡ group groups i
  group_other i other = elim (cases_lt place (length groups)) [
    | inl inside ↦ ap (λ gs. group gs i) (joins groups place r inside)
        ∙ get_or-set_other groups place i (group groups place ++ r ∷ []) [] other
    | inr outside ↦ ap (λ gs. group gs i) (begins groups place r outside) ∙ (elim (cases_lt i (length groups)) [
      | inl low ↦ get_or-left groups ((r ∷ []) ∷ []) i [] low
      | inr high ↦ (
          let n : length (groups ++ (r ∷ []) ∷ []) ≡ length groups + 1 = length-append groups ((r ∷ []) ∷ []) in
          get_or_past (groups ++ (r ∷ []) ∷ []) i [] (omega arith) ∙ sym (get_or_past groups i [] high))
    ])
  ]

  -- who stands in a cluster: those who stood there, and the register at its place
  pub members : (i x : ℕ) → Contains (group (with_member groups place r) i) x
      → Contains (group groups i) x ⊎ ((i ≡ place) × (x ≡ r))
  members i x is = elim (cases_eq i place) [
    | inl here ↦ (
        let g : group (with_member groups place r) i ≡ group groups i ++ r ∷ [] =
        subst (λ (j : ℕ). group (with_member groups place r) j ≡ group groups j ++ r ∷ []) (sym here) group_here in
        elim (Contains-push_cases (group groups i) r x (subst (λ (g : List ℕ). Contains g x) g is)) [
          | inl old ↦ inl old
          | inr new ↦ inr (here, sym new)
        ])
    | inr other ↦ inl (subst (λ (g : List ℕ). Contains g x) (group_other i other) is)
  ]

  pub stays : (i x : ℕ) → Contains (group groups i) x → Contains (group (with_member groups place r) i) x
  stays i x is = elim (cases_eq i place) [
    | inl here ↦ (
        let g : group (with_member groups place r) i ≡ group groups i ++ r ∷ [] =
        subst (λ (j : ℕ). group (with_member groups place r) j ≡ group groups j ++ r ∷ []) (sym here) group_here in
        subst (λ (g : List ℕ). Contains g x) (sym g) (Contains-append_left (group groups i) (r ∷ []) x is))
    | inr other ↦ subst (λ (g : List ℕ). Contains g x) (sym (group_other i other)) is
  ]

  pub joined : Contains (group (with_member groups place r) place) r
  joined = subst (λ (g : List ℕ). Contains g r) (sym group_here) (Contains-push (group groups place) r)

  -- a register that stood in the cluster of another does so still
  pub first-stays : (i : ℕ) → 0 < length (group groups i)
      → get_or (group (with_member groups place r) i) 0 0 ≡ get_or (group groups i) 0 0
  first-stays i some = elim (cases_eq i place) [
    | inl here ↦ (
        let g : group (with_member groups place r) i ≡ group groups i ++ r ∷ [] =
        subst (λ (j : ℕ). group (with_member groups place r) j ≡ group groups j ++ r ∷ []) (sym here) group_here in
        ap (λ g. get_or g 0 0) g ∙ get_or-left (group groups i) (r ∷ []) 0 0 some)
    | inr other ↦ ap (λ g. get_or g 0 0) (group_other i other)
  ]

-- the next register in its cluster: those in it, and no others, belong to it
module _ (belong : ℕ → ℕ → Type 0) (turn : (a b : ℕ) → belong a b → belong b a)
    (r : ℕ) (groups : List (List ℕ)) (are : AreGroups belong r groups)
    (place : ℕ) (near : place ≤ length groups) (itself : belong r r)
    (same : (x : ℕ) → Contains (group groups place) x → belong x r)
    (only : (i x : ℕ) → Contains (group groups i) x → belong x r → i ≡ place) where
  abbrev new : List (List ℕ)
  new = with_member groups place r

  covered : (x : ℕ) → x < r + 1 → (i : ℕ) × (i < length new) × Contains (group new i) x
  covered x low =
      let n = length-with_register groups place r near in
      elim (cases_lt x r) [
        | inl old ↦ (let (i, inside, is) = are.covered x old in (i, omega (arith, n.0), stays groups place r near i x is))
        | inr last ↦ (let e : r ≡ x = omega arith in
            (place, n.1, subst (λ (y : ℕ). Contains (group new place) y) e (joined groups place r near)))
      ]

  within : (i x : ℕ) → Contains (group new i) x → x < r + 1
  within i x is = elim (members groups place r near i x is) [
    | inl old ↦ (let low : x < r = are.within i x old in omega arith)
    | inr (here, e) ↦ omega (arith, e)
  ]

  together : (i a b : ℕ) → Contains (group new i) a → Contains (group new i) b → belong a b
  together i a b one other = elim (members groups place r near i a one) [
    | inl old ↦ elim (members groups place r near i b other) [
      | inl also ↦ are.together i a b old also
      | inr (here, e) ↦ subst (λ (y : ℕ). belong a y) (sym e)
          (same a (subst (λ (j : ℕ). Contains (group groups j) a) here old))
    ]
    | inr (here, e) ↦ elim (members groups place r near i b other) [
      | inl also ↦ subst (λ (y : ℕ). belong y b) (sym e)
          (turn b r (same b (subst (λ (j : ℕ). Contains (group groups j) b) here also)))
      | inr (there, f) ↦ subst (λ (y : ℕ). belong y b) (sym e) (subst (λ (y : ℕ). belong r y) (sym f) itself)
    ]
  ]

  apart : (i j a b : ℕ) → Contains (group new i) a → Contains (group new j) b → belong a b → i ≡ j
  apart i j a b one other belongs = elim (members groups place r near i a one) [
    | inl old ↦ elim (members groups place r near j b other) [
      | inl also ↦ are.apart i j a b old also belongs
      | inr (here, e) ↦ only i a old (subst (λ (y : ℕ). belong a y) e belongs) ∙ sym here
    ]
    | inr (here, e) ↦ elim (members groups place r near j b other) [
      | inl also ↦ here ∙ sym (only j b also (turn r b (subst (λ (y : ℕ). belong y b) e belongs)))
      | inr (there, f) ↦ here ∙ sym there
    ]
  ]

  some : (i : ℕ) → i < length new → 0 < length (group new i)
  some i low = elim (cases_eq i place) [
    | inl here ↦ (
        let n : length (group groups place ++ r ∷ []) ≡ length (group groups place) + 1 = length-append (group groups place) (r ∷ []) in
        let g : length (group new i) ≡ length (group groups place ++ r ∷ []) =
        ap (λ j. length (group new j)) here ∙ ap length (group_here groups place r near) in
        omega arith)
    | inr other ↦ (
        let old : i < length groups = elim ((length-with_register groups place r near).2 i low) [
          | inl l ↦ l
          | inr e ↦ absurd (other e)
        ] in
        let h : 0 < length (group groups i) = are.some i old in
        let g : length (group new i) ≡ length (group groups i) = ap length (group_other groups place r near i other) in
        omega arith)
  ]

  rising : (i : ℕ) → AllPairs (λ a b. a < b) (group new i)
  rising i = elim (cases_eq i place) [
    | inl here ↦ (
        let g : group new i ≡ group groups place ++ r ∷ [] = ap (λ j. group new j) here ∙ group_here groups place r near in
        subst (λ (g : List ℕ). AllPairs (λ a b. a < b) g) (sym g)
        (all_pairs_push (λ a b. a < b) (group groups place) r (are.rising place)
        (λ k d inside. are.within place (get_or (group groups place) k d) (Contains-get_or (group groups place) k d inside))))
    | inr other ↦ subst (λ (g : List ℕ). AllPairs (λ a b. a < b) g) (sym (group_other groups place r near i other)) (are.rising i)
  ]

  -- the first register of a cluster that was there
  first_old : (i : ℕ) → i < length groups → get_or (group new i) 0 0 ≡ get_or (group groups i) 0 0
  first_old i old = first-stays groups place r near i (are.some i old)

  by_first : (i j : ℕ) → i < j → j < length new → get_or (group new i) 0 0 < get_or (group new j) 0 0
  by_first i j below low = elim ((length-with_register groups place r near).2 j low) [
    | inl old ↦ (
        let e = first_old i (omega arith) in
        let f = first_old j old in
        let h : get_or (group groups i) 0 0 < get_or (group groups j) 0 0 = are.by_first i j below old in
        omega (arith, e, f))
    | inr here ↦ elim (cases_lt j (length groups)) [
      | inl old ↦ (
          let e = first_old i (omega arith) in
          let f = first_old j old in
          let h : get_or (group groups i) 0 0 < get_or (group groups j) 0 0 = are.by_first i j below old in
          omega (arith, e, f))
      | inr last ↦ (
          let inside : i < length groups = omega arith in
          let e = first_old i inside in
          let h : get_or (group groups i) 0 0 < r = are.within i (get_or (group groups i) 0 0)
          (Contains-get_or (group groups i) 0 0 (are.some i inside)) in
          let past : group groups place ≡ [] = get_or_past groups place [] (omega arith) in
          let g : group new j ≡ r ∷ [] = ap (λ k. group new k) here
          ∙ (group_here groups place r near ∙ ap (λ g. g ++ r ∷ []) past) in
          let f : get_or (group new j) 0 0 ≡ r = ap (λ g. get_or g 0 0) g in
          omega (arith, e, f))
    ]
  ]

  pub next_register : AreGroups belong (r + 1) (with_member groups place r)
  next_register = record {
    covered = covered;
    within = within;
    together = together;
    apart = apart;
    some = some;
    rising = rising;
    by_first = by_first;
  }
