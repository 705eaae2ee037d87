-- Registers have one clustering.
use Rattle.std.proofs.Common.{◌≡◌, inl, inr, ℕ, ◌<◌, ◌≤◌, List, [], length, get_or, map, refl, sym, ◌∙◌, ap, subst, arith}
use Rattle.std.specs.Prelude.{All, AllPairs, Contains}
use Rattle.std.proofs.lemmas.Bool.{cases_lt}
use Rattle.std.proofs.lemmas.List.{get_or_default, get_or_past, get_or-map, length-map}
use Rattle.std.proofs.lemmas.List.Elements.{All-get_or, All-contains, Contains-get_or}
use Rattle.ds_base.proofs.RisingNumbers.{rising_same}
use Rattle.ds_base.proofs.ListLemmas.{lists_same, get_or-self, Any-from_map, Contains-map}
use Rattle.ds_split.specs.Cluster.{Agree, IsGrouping}
use Rattle.ds_split.specs.Groups.{group}
use Rattle.ds_split.specs.Grouped.{BelongTogether}
use Rattle.ds_split.specs.Laws.{OneClustering, OneGroupedClustering}
use Rattle.ds_split.proofs.Loops.{in_group}
use Rattle.ds_split.proofs.Sources.{flat_apart}

module _ (belong : ℕ → ℕ → Type 0) (count : ℕ) (xs : List (List ℕ)) (is : IsGrouping belong count xs) where
  rising_group : (i : ℕ) → AllPairs (λ a b. a < b) (group xs i)
  rising_group i = elim (cases_lt i (length xs)) [
    | inl low ↦ All-get_or (λ registers. AllPairs (λ a b. a < b) registers) xs i [] low is.rising
    | inr high ↦ subst (λ (g : List ℕ). AllPairs (λ a b. a < b) g) (sym (get_or_past xs i [] high)) (λ j k d below inside. absurd (omega arith))
  ]

  within_group : (i r : ℕ) → Contains (group xs i) r → r < count
  within_group i r member = All-contains (λ r. r < count) (group xs i) r
      (All-get_or (λ registers. All (λ r. r < count) registers) xs i [] (in_group xs i r member) is.each_once.within) member

  first_member : (i : ℕ) → i < length xs → Contains (group xs i) (get_or (group xs i) 0 0)
  first_member i low = Contains-get_or (group xs i) 0 0 (All-get_or (λ registers. 0 < length registers) xs i [] low is.some)

  -- who is in a cluster belongs to its first register, and the other way round
  belongs : (i r : ℕ) → Contains (group xs i) r → belong r (get_or (group xs i) 0 0)
  belongs i r member =
      let low : i < length xs = in_group xs i r member in
      let f = first_member i low in
      (is.together r (get_or (group xs i) 0 0) (within_group i r member) (within_group i (get_or (group xs i) 0 0) f)).1
      (i, group xs i, low, get_or-self xs i [] low, (member, f))

  joins : (i r : ℕ) → i < length xs → r < count → belong r (get_or (group xs i) 0 0) → Contains (group xs i) r
  joins i r low inside belong_r =
      let f = first_member i low in
      let (k, g, there, at, (one, other)) =
      (is.together r (get_or (group xs i) 0 0) inside (within_group i (get_or (group xs i) 0 0) f)).0 belong_r in
      let e : g ≡ group xs k = sym at ∙ get_or_default xs k g [] there in
      let same : k ≡ i = flat_apart xs is.each_once.once k i (get_or (group xs i) 0 0)
      (subst (λ (h : List ℕ). Contains h (get_or (group xs i) 0 0)) e other) f in
      subst (λ (j : ℕ). Contains (group xs j) r) same (subst (λ (h : List ℕ). Contains h r) e one)

  least_member : (i r : ℕ) → Contains (group xs i) r → get_or (group xs i) 0 0 ≤ r
  least_member i r (k, inside, at) = elim (cases_lt 0 k) [
    | inl later_one ↦ (
        let h : get_or (group xs i) 0 r < get_or (group xs i) k r = rising_group i 0 k r later_one inside in
        let e : get_or (group xs i) 0 r ≡ get_or (group xs i) 0 0 = get_or_default (group xs i) 0 r 0 (omega arith) in
        omega (arith, at))
    | inr here ↦ (
        let e : get_or (group xs i) k r ≡ get_or (group xs i) 0 0 =
        ap (λ j. get_or (group xs i) j r) (let z : k ≡ 0 = omega arith in z) ∙ get_or_default (group xs i) 0 r 0 (omega arith) in
        omega (arith, at))
  ]

  -- the first registers are those that belong to none before them
  pub firsts_rise : AllPairs (λ a b. a < b) (map (λ g. get_or g 0 0) xs)
  firsts_rise i j d below inside =
      let n : length (map (λ g. get_or g 0 0) xs) ≡ length xs = length-map xs (λ (g : List ℕ). get_or g 0 0) in
      let low : j < length xs = omega arith in
      let e : get_or (map (λ g. get_or g 0 0) xs) i d ≡ get_or (group xs i) 0 0 = get_or-map (λ (g : List ℕ). get_or g 0 0) xs i [] d (omega arith) in
      let f : get_or (map (λ g. get_or g 0 0) xs) j d ≡ get_or (group xs j) 0 0 = get_or-map (λ (g : List ℕ). get_or g 0 0) xs j [] d low in
      let h : get_or (group xs i) 0 0 < get_or (group xs j) 0 0 = is.by_first i j [] below low in
      omega arith

  pub first_is : (r : ℕ) → Contains (map (λ g. get_or g 0 0) xs) r → (r < count) × ((q : ℕ) → q < r → q < count → ¬ belong q r)
  first_is r there =
      let (i, g, low, at, e) = Any-from_map (λ (g : List ℕ). get_or g 0 0) xs r there in
      let same : get_or (group xs i) 0 0 ≡ r = ap (λ (h : List ℕ). get_or h 0 0) (get_or_default xs i [] g low ∙ at) ∙ e in (
        subst (λ (n : ℕ). n < count) same (within_group i (get_or (group xs i) 0 0) (first_member i low)),
        (λ q less inside belong_q.
            let h : get_or (group xs i) 0 0 ≤ q = least_member i q (joins i q low inside (subst (λ (n : ℕ). belong q n) (sym same) belong_q)) in
            absurd (omega arith)),
      )

  pub is_first : (r : ℕ) → r < count → ((q : ℕ) → q < r → q < count → ¬ belong q r) → Contains (map (λ g. get_or g 0 0) xs) r
  is_first r inside none_before =
      let (i, g, low, at, member') = is.each_once.covered r inside in
      let member : Contains (group xs i) r = subst (λ (h : List ℕ). Contains h r) (sym at ∙ get_or_default xs i g [] low) member' in
      let f = first_member i low in
      let least_one : get_or (group xs i) 0 0 ≤ r = least_member i r member in
      elim (cases_lt (get_or (group xs i) 0 0) r) [
        | inl less ↦ absurd (none_before (get_or (group xs i) 0 0) less (within_group i (get_or (group xs i) 0 0) f)
            ((is.together (get_or (group xs i) 0 0) r (within_group i (get_or (group xs i) 0 0) f) inside).1
            (i, group xs i, low, get_or-self xs i [] low, (f, member))))
        | inr more ↦ (
            let e : get_or (group xs i) 0 0 ≡ r = omega arith in
            subst (λ (n : ℕ). Contains (map (λ g. get_or g 0 0) xs) n) e
            (Contains-map (λ (g : List ℕ). get_or g 0 0) xs (group xs i) (Contains-get_or xs i [] low)))
      ]

  pub members_are : (i r : ℕ) → i < length xs
      → (Contains (group xs i) r → (r < count) × belong r (get_or (group xs i) 0 0))
      × ((r < count) × belong r (get_or (group xs i) 0 0) → Contains (group xs i) r)
  members_are i r low = ((λ member. (within_group i r member, belongs i r member)), (λ (inside, belong_r). joins i r low inside belong_r))

  pub group_rises : (i : ℕ) → AllPairs (λ a b. a < b) (group xs i)
  group_rises = rising_group

module _ (belong : ℕ → ℕ → Type 0) (count : ℕ) (xs ys : List (List ℕ)) (one : IsGrouping belong count xs) (other : IsGrouping belong count ys) where
  firsts_same : map (λ g. get_or g 0 0) xs ≡ map (λ g. get_or g 0 0) ys
  firsts_same = rising_same (map (λ g. get_or g 0 0) xs) (map (λ g. get_or g 0 0) ys)
      (firsts_rise belong count xs one) (firsts_rise belong count ys other)
      (λ r there. let (inside, before) = first_is belong count xs one r there in is_first belong count ys other r inside before)
      (λ r there. let (inside, before) = first_is belong count ys other r there in is_first belong count xs one r inside before)

  as_many : length xs ≡ length ys
  as_many = sym (length-map xs (λ (g : List ℕ). get_or g 0 0))
      ∙ (ap length firsts_same ∙ length-map ys (λ (g : List ℕ). get_or g 0 0))

  first_same : (i : ℕ) → i < length xs → get_or (group xs i) 0 0 ≡ get_or (group ys i) 0 0
  first_same i low =
      let n : length xs ≡ length ys = as_many in
      sym (get_or-map (λ (g : List ℕ). get_or g 0 0) xs i [] 0 low)
      ∙ (ap (λ fs. get_or fs i 0) firsts_same ∙ get_or-map (λ (g : List ℕ). get_or g 0 0) ys i [] 0 (omega arith))

  group_same : (i : ℕ) → group xs i ≡ group ys i
  group_same i =
      let n : length xs ≡ length ys = as_many in
      elim (cases_lt i (length xs)) [
        | inl low ↦ (
            let also : i < length ys = omega arith in
            let f = first_same i low in
            rising_same (group xs i) (group ys i) (group_rises belong count xs one i) (group_rises belong count ys other i)
            (λ r member. let (inside, b) = (members_are belong count xs one i r low).0 member in
            (members_are belong count ys other i r also).1 (inside, subst (λ (n : ℕ). belong r n) f b))
            (λ r member. let (inside, b) = (members_are belong count ys other i r also).0 member in
            (members_are belong count xs one i r low).1 (inside, subst (λ (n : ℕ). belong r n) (sym f) b)))
        | inr high ↦ get_or_past xs i [] high ∙ sym (get_or_past ys i [] (omega arith))
      ]

  pub one_grouping : xs ≡ ys
  one_grouping = lists_same xs ys [] as_many group_same

pub one_clustering_lem : OneClustering
one_clustering_lem c mode one other is also = one_grouping (Agree c mode) (length c.registers) one other is also

pub one_grouped_lem : OneGroupedClustering
one_grouped_lem c mode groups one other is also =
    one_grouping (BelongTogether c mode groups) (length c.registers) one other is also
