-- Clusters by keys: one register more, and the keys of groups and modes.
use Rattle.std.proofs.Common.{◌≡◌, ◌≢◌, ◌↔◌, ◌⊎◌, inl, inr, ℕ, zero, suc, ◌+◌, ◌-◌, ◌<◌, ◌≤◌, ◌==◌, List, [], ◌∷◌, ◌++◌, length, get_or, set, refl, sym, Result, Ok, Err, ◌∙◌, ap, subst, arith, length-append, get_or-set_same, get_or-set_other}
use Rattle.std.specs.Prelude.{All, AllPairs, Any, Contains, IfErr, IfOk}
use Rattle.std.proofs.lemmas.Bool.{cases_eq, cases_lt, cond-true, cond-false, eq-eqb, ne_eqb}
use Rattle.std.proofs.lemmas.List.{get_or_default, get_or_past, length-set}
use Rattle.std.proofs.lemmas.List.Elements.{All-from_get_or, All-get_or, Contains-get_or}
use Rattle.ds_base.proofs.ListLemmas.{get_or-self}
use Rattle.ds_base.specs.declared.number.Mode.{Mode}
use Rattle.ds_design.specs.Circuit.{Circuit}
use Rattle.ds_design.specs.Groups.{AreDisjoint}
use Rattle.ds_split.specs.Cluster.{Agree, HaveBoth, IsClustering, IsGrouping}
use Rattle.ds_split.specs.Grouped.{BelongTogether, IsGroupedClustering, IsGroupedFault, IsInGroup}
use Rattle.ds_split.specs.Groups.{group, with_member, AreGroups}
use Rattle.ds_split.specs.Keyed.{AreHolders, AreKeys, AreMixed, HaveOneKey, IsPlaceOf, mixed_key}
use Rattle.ds_split.specs.Laws.{WithoutGroups}
use Rattle.ds_split.specs.Split.{IsClusterFault}
use Rattle.ds_split.specs.declared.fault.SplitFault.{SplitFault}
use Rattle.ds_split.specs.declared.fault.SplitFault.TheVariants.{TooMany, Memory}
use Rattle.ds_split.specs.Nets.{AreMarked}
use Rattle.ds_split.proofs.Groups.{length-with_register, members, next_register}
use Rattle.ds_split.proofs.Loops.{in_group, no_groups}
use Rattle.ds_split.proofs.Marks.{zeros-at}

-- clusters by keys: for each key the place of its cluster, one more than it, 0 where none is there
pub record HavePlaces (keys : List ℕ) (most : ℕ) (groups : List (List ℕ)) (places : List ℕ) : Type 0 where
  pub size : length places ≡ most
  pub found : (k i : ℕ) → get_or places k 0 ≡ i + 1 → i < length groups
  pub back : (i x : ℕ) → Contains (group groups i) x → get_or places (get_or keys x 0) 0 ≡ i + 1
  pub same : (k i x : ℕ) → get_or places k 0 ≡ i + 1 → Contains (group groups i) x → get_or keys x 0 ≡ k

-- the clusters so far, and the place of each key
pub record AreKeyed (keys : List ℕ) (most count : ℕ) (groups : List (List ℕ)) (places : List ℕ) : Type 0 where
  pub are : AreGroups (HaveOneKey keys) count groups
  pub have : HavePlaces keys most groups places

module _ (keys : List ℕ) (most r : ℕ) (groups : List (List ℕ)) (places : List ℕ) (place : ℕ)
    (so_far : AreKeyed keys most r groups places) (few : get_or keys r 0 < most)
    (at : IsPlaceOf places (get_or keys r 0) (length groups) place) where
  key : ℕ
  key = get_or keys r 0

  near : place ≤ length groups
  near = elim at [
    | inl (none, next) ↦ omega arith
    | inr there ↦ (let low : place < length groups = so_far.have.found (get_or keys r 0) place there in omega arith)
  ]

  -- who stands at the place has the key
  here_same : (x : ℕ) → Contains (group groups place) x → get_or keys x 0 ≡ get_or keys r 0
  here_same x is = elim at [
    | inl (none, next) ↦ absurd (let low : place < length groups = in_group groups place x is in omega arith)
    | inr there ↦ so_far.have.same (get_or keys r 0) place x there is
  ]

  -- who has the key stands at the place
  same_here : (i x : ℕ) → Contains (group groups i) x → get_or keys x 0 ≡ get_or keys r 0 → i ≡ place
  same_here i x is e =
      let b : get_or places (get_or keys r 0) 0 ≡ i + 1 = ap (λ k. get_or places k 0) (sym e) ∙ so_far.have.back i x is in
      elim at [
        | inl (none, next) ↦ absurd (omega arith)
        | inr there ↦ omega arith
      ]

  new_groups : List (List ℕ)
  new_groups = with_member groups place r

  set_here : get_or (set places (get_or keys r 0) (place + 1)) (get_or keys r 0) 0 ≡ place + 1
  set_here = get_or-set_same places (get_or keys r 0) (place + 1) 0 (let n : length places ≡ most = so_far.have.size in omega arith)

  set_other : (k : ℕ) → k ≢ get_or keys r 0 → get_or (set places (get_or keys r 0) (place + 1)) k 0 ≡ get_or places k 0
  set_other k other = get_or-set_other places (get_or keys r 0) k (place + 1) 0 other

  -- a key that has the place of the register is its own
  one_key : (k : ℕ) → get_or places k 0 ≡ place + 1 → k ≡ get_or keys r 0
  one_key k is = elim at [
    | inl (none, next) ↦ absurd (let low : place < length groups = so_far.have.found k place is in omega arith)
    | inr there ↦ (
        let low : place < length groups = so_far.have.found k place is in
        let first : Contains (group groups place) (get_or (group groups place) 0 0) = Contains-get_or (group groups place) 0 0 (so_far.are.some place low) in
        sym (so_far.have.same k place (get_or (group groups place) 0 0) is first)
        ∙ so_far.have.same (get_or keys r 0) place (get_or (group groups place) 0 0) there first)
  ]

  found_next : (k i : ℕ) → get_or (set places (get_or keys r 0) (place + 1)) k 0 ≡ i + 1 → i < length (with_member groups place r)
  found_next k i is =
      let n = length-with_register groups place r near in
      elim (cases_eq k (get_or keys r 0)) [
        | inl e ↦ (let f : i ≡ place = (let g = ap (λ j. get_or (set places (get_or keys r 0) (place + 1)) j 0) (sym e) in let h = set_here in omega (arith, g, h, is)) in
            let more = n.1 in omega (arith, f, more))
        | inr other ↦ (let low : i < length groups = so_far.have.found k i (sym (set_other k other) ∙ is) in let more = n.0 in omega (arith, more))
      ]

  back_next : (i x : ℕ) → Contains (group (with_member groups place r) i) x → get_or (set places (get_or keys r 0) (place + 1)) (get_or keys x 0) 0 ≡ i + 1
  back_next i x is = elim (members groups place r near i x is) [
    | inl old ↦ elim (cases_eq (get_or keys x 0) (get_or keys r 0)) [
      | inl e ↦ ap (λ j. get_or (set places (get_or keys r 0) (place + 1)) j 0) e ∙ set_here ∙ ap (λ j. j + 1) (sym (same_here i x old e))
      | inr other ↦ set_other (get_or keys x 0) other ∙ so_far.have.back i x old
    ]
    | inr (here, e) ↦ ap (λ y. get_or (set places (get_or keys r 0) (place + 1)) (get_or keys y 0) 0) e ∙ set_here ∙ ap (λ j. j + 1) (sym here)
  ]

  same_next : (k i x : ℕ) → get_or (set places (get_or keys r 0) (place + 1)) k 0 ≡ i + 1 → Contains (group (with_member groups place r) i) x → get_or keys x 0 ≡ k
  same_next k i x is member = elim (cases_eq k (get_or keys r 0)) [
    | inl e ↦ (
        let f : i ≡ place = (let g = ap (λ j. get_or (set places (get_or keys r 0) (place + 1)) j 0) (sym e) in let h = set_here in omega (arith, g, h, is)) in
        elim (members groups place r near i x member) [
          | inl old ↦ here_same x (subst (λ (j : ℕ). Contains (group groups j) x) f old) ∙ sym e
          | inr (here, g) ↦ ap (λ y. get_or keys y 0) g ∙ sym e
        ])
    | inr other ↦ (
        let before : get_or places k 0 ≡ i + 1 = sym (set_other k other) ∙ is in
        elim (members groups place r near i x member) [
          | inl old ↦ so_far.have.same k i x before old
          | inr (here, g) ↦ absurd (other (one_key k (before ∙ ap (λ j. j + 1) here)))
        ])
  ]

  pub next_keyed : AreKeyed keys most (r + 1) (with_member groups place r) (set places (get_or keys r 0) (place + 1))
  next_keyed = record {
    are = next_register (HaveOneKey keys) (λ a b e. sym e) r groups so_far.are place near refl here_same same_here;
    have = record {
      size = length-set places (get_or keys r 0) (place + 1) ∙ so_far.have.size;
      found = found_next;
      back = back_next;
      same = same_next;
    };
  }

-- no register has a cluster yet
pub none_keyed : (keys : List ℕ) (most : ℕ) (places : List ℕ) → length places ≡ most → ((k : ℕ) → get_or places k 0 ≡ 0) → AreKeyed keys most 0 [] places
none_keyed keys most places size zeros = record {
  are = no_groups (HaveOneKey keys);
  have = record {
    size = size;
    found = λ k i is. absurd (let z = zeros k in omega (arith, z, is));
    back = λ i x is. absurd (let low : i < 0 = in_group [] i x is in omega arith);
    same = λ k i x is member. absurd (let z = zeros k in omega (arith, z, is));
  };
}

-- clusters by what belongs together, where that is said in another way
pub groups_alike : (belong other : ℕ → ℕ → Type 0) (count : ℕ) (groups : List (List ℕ))
    → ((a b : ℕ) → a < count → b < count → belong a b ↔ other a b) → AreGroups other count groups → AreGroups belong count groups
groups_alike belong other count groups alike are = record {
  covered = are.covered;
  within = are.within;
  together = λ i a b one also. (alike a b (are.within i a one) (are.within i b also)).1 (are.together i a b one also);
  apart = λ i j a b one also is. are.apart i j a b one also ((alike a b (are.within i a one) (are.within j b also)).0 is);
  some = are.some;
  rising = are.rising;
  by_first = are.by_first;
}

-- a register that a group has
taken_by : (groups : List (List ℕ)) (i r : ℕ) → Contains (group groups i) r → IsInGroup groups r
taken_by groups i r is = let low : i < length groups = in_group groups i r is in (i, group groups i, low, get_or-self groups i [] low, is)

both_by : (groups : List (List ℕ)) (i a b : ℕ) → Contains (group groups i) a → Contains (group groups i) b → HaveBoth groups a b
both_by groups i a b one other = let low : i < length groups = in_group groups i a one in (i, group groups i, low, get_or-self groups i [] low, (one, other))

-- the group that has a register, and that which has both of two
pub taken_at : (groups : List (List ℕ)) (r : ℕ) → IsInGroup groups r → (i : ℕ) × (i < length groups) × Contains (group groups i) r
taken_at groups r (i, g, low, at, is) =
    (i, low, subst (λ (h : List ℕ). Contains h r) (sym at ∙ get_or_default groups i g [] low) is)

pub both_at : (groups : List (List ℕ)) (a b : ℕ) → HaveBoth groups a b → (i : ℕ) × (i < length groups) × Contains (group groups i) a × Contains (group groups i) b
both_at groups a b (i, g, low, at, (one, other)) =
    let e : g ≡ group groups i = sym at ∙ get_or_default groups i g [] low in
    (i, low, subst (λ (h : List ℕ). Contains h a) e one, subst (λ (h : List ℕ). Contains h b) e other)

module _ (c : Circuit) (mode : Mode) (groups : List (List ℕ)) (count : ℕ) (holders keys mixed : List ℕ)
    (held : AreHolders count (length groups) groups holders) (are : AreKeys (Agree c mode) count count keys)
    (mix : AreMixed (length groups) holders keys mixed) where
  -- a register without a group, and one with
  free_key : (r : ℕ) → r < count → get_or holders r 0 ≡ 0 → get_or mixed r 0 ≡ length groups + get_or keys r 0
  free_key r low free =
      let n : length holders ≡ count = held.one_each in
      mix.each r (omega arith) ∙ cond-true (get_or holders r 0 == 0) (length groups + get_or keys r 0) (get_or holders r 0 - 1) (eq-eqb (get_or holders r 0) 0 free)

  held_key : (r i : ℕ) → r < count → get_or holders r 0 ≡ i + 1 → get_or mixed r 0 ≡ i
  held_key r i low is =
      let n : length holders ≡ count = held.one_each in
      mix.each r (omega arith) ∙ cond-false (get_or holders r 0 == 0) (length groups + get_or keys r 0) (get_or holders r 0 - 1) (ne_eqb (get_or holders r 0) 0 (λ e. absurd (omega arith)))
      ∙ (let e : get_or holders r 0 - 1 ≡ i = omega arith in e)

  cases_held : (r : ℕ) → (get_or holders r 0 ≡ 0) ⊎ ((i : ℕ) × (get_or holders r 0 ≡ i + 1))
  cases_held r = elim (cases_lt 0 (get_or holders r 0)) [
    | inl some ↦ inr (get_or holders r 0 - 1, omega arith)
    | inr none ↦ inl (omega arith)
  ]

  not_taken : (r : ℕ) → get_or holders r 0 ≡ 0 → ¬ IsInGroup groups r
  not_taken r free taken =
      let (i, low, is) = taken_at groups r taken in
      let e : get_or holders r 0 ≡ i + 1 = held.held i r low is in omega arith

  low_key : (r : ℕ) → r < count → get_or mixed r 0 < length groups + count
  low_key r low = elim (cases_held r) [
    | inl free ↦ (
        let e = free_key r low free in
        let k : get_or keys r 0 < count = All-get_or (λ key. key < count) keys r 0 (let n : length keys ≡ count = are.one_each in omega arith) are.few in
        omega (arith, e, k))
    | inr (i, is) ↦ (let e = held_key r i low is in let l : i < length groups = (held.from r i is).0 in omega (arith, e, l))
  ]

  there : (a b : ℕ) → a < count → b < count → BelongTogether c mode groups a b → HaveOneKey mixed a b
  there a b low also (inl both) =
      let (i, inside, one, other) = both_at groups a b both in
      held_key a i low (held.held i a inside one) ∙ sym (held_key b i also (held.held i b inside other))
  there a b low also (inr (free_a, free_b, agree)) = elim (cases_held a) [
    | inr (i, is) ↦ absurd (free_a (taken_by groups i a (held.from a i is).1))
    | inl one ↦ elim (cases_held b) [
      | inr (i, is) ↦ absurd (free_b (taken_by groups i b (held.from b i is).1))
      | inl other ↦ free_key a low one ∙ ap (λ k. length groups + k) ((are.same a b low also).0 agree) ∙ sym (free_key b also other)
    ]
  ]

  back : (a b : ℕ) → a < count → b < count → HaveOneKey mixed a b → BelongTogether c mode groups a b
  back a b low also e = elim (cases_held a) [
    | inl one ↦ elim (cases_held b) [
      | inl other ↦ (
          let f : get_or keys a 0 ≡ get_or keys b 0 = (let x = free_key a low one in let y = free_key b also other in omega (arith, x, y, e)) in
          inr (not_taken a one, not_taken b other, (are.same a b low also).1 f))
      | inr (j, is) ↦ absurd (
          let x = free_key a low one in let y = held_key b j also is in
          let l : j < length groups = (held.from b j is).0 in omega (arith, x, y, e, l))
    ]
    | inr (i, is) ↦ elim (cases_held b) [
      | inl other ↦ absurd (
          let x = held_key a i low is in let y = free_key b also other in
          let l : i < length groups = (held.from a i is).0 in omega (arith, x, y, e, l))
      | inr (j, at) ↦ (
          let f : j ≡ i = (let x = held_key a i low is in let y = held_key b j also at in omega (arith, x, y, e)) in
          inl (both_by groups i a b (held.from a i is).1 (subst (λ (k : ℕ). Contains (group groups k) b) f (held.from b j at).1)))
    ]
  ]

  pub mixed_keys : AreKeys (BelongTogether c mode groups) count (length groups + count) mixed
  mixed_keys = record {
    one_each = mix.one_each ∙ held.one_each;
    few = All-from_get_or (λ key. key < length groups + count) mixed 0 (λ r low. low_key r (let n : length mixed ≡ length holders = mix.one_each in let m : length holders ≡ count = held.one_each in omega arith));
    same = λ a b low also. (there a b low also, back a b low also);
  }

-- no group has been looked at
pub holders_none : (count : ℕ) (groups : List (List ℕ)) (holders : List ℕ) → length holders ≡ count → ((k : ℕ) → get_or holders k 0 ≡ 0) → AreHolders count 0 groups holders
holders_none count groups holders size zeros = record {
  one_each = size;
  held = λ i r low is. absurd (omega arith);
  from = λ r i is. absurd (let z = zeros r in omega (arith, z, is));
}

-- one group more
module _ (count : ℕ) (groups : List (List ℕ)) (disjoint : AreDisjoint count groups) (i : ℕ) (old new : List ℕ)
    (are : AreHolders count i groups old) (mark : AreMarked (Contains (group groups i)) (i + 1) old new) where
  pub holders_more : ((r : ℕ) → Contains (group groups i) r ⊎ (¬ Contains (group groups i) r)) → AreHolders count (i + 1) groups new
  holders_more cases = record {
    one_each = mark.same_length ∙ are.one_each;
    held = λ j r low is. elim (cases r) [
      | inl here ↦ mark.marked r here ∙ ap (λ k. k + 1) (disjoint.once i j r here is)
      | inr other ↦ elim (cases_eq j i) [
        | inl e ↦ absurd (other (subst (λ (k : ℕ). Contains (group groups k) r) e is))
        | inr differs ↦ mark.others r other ∙ are.held j r (omega arith) is
      ]
    ];
    from = λ r j is. elim (cases r) [
      | inl here ↦ (
          let e : i ≡ j = (let m = mark.marked r here in omega (arith, m, is)) in
          (omega arith, subst (λ (k : ℕ). Contains (group groups k) r) e here))
      | inr other ↦ (
          let (low, there) = are.from r j (sym (mark.others r other) ∙ is) in
          (omega arith, there))
    ];
  }

-- without groups the clusters are those of the mode
none_taken : (r : ℕ) → ¬ IsInGroup [] r
none_taken r (k, registers, inside, at, is) = absurd (let h : k < 0 = inside in omega arith)

agree_of : (c : Circuit) (mode : Mode) (a b : ℕ) → BelongTogether c mode [] a b → Agree c mode a b
agree_of c mode a b (inl (k, registers, inside, at, is)) = absurd (let h : k < 0 = inside in omega arith)
agree_of c mode a b (inr (one, other, agree)) = agree

of_agree : (c : Circuit) (mode : Mode) (a b : ℕ) → Agree c mode a b → BelongTogether c mode [] a b
of_agree c mode a b agree = inr (none_taken a, none_taken b, agree)

-- a grouping by what belongs together, where that is said in another way
grouping_alike : (belong other : ℕ → ℕ → Type 0) (count : ℕ) (clusters : List (List ℕ)) → ((a b : ℕ) → belong a b → other a b)
    → ((a b : ℕ) → other a b → belong a b) → IsGrouping other count clusters → IsGrouping belong count clusters
grouping_alike belong other count clusters there back is = record {
  each_once = is.each_once;
  together = λ a b low also. ((λ one. (is.together a b low also).0 (there a b one)), (λ both. back a b ((is.together a b low also).1 both)));
  some = is.some;
  rising = is.rising;
  by_first = is.by_first;
}

pub bare : WithoutGroups
bare c mode clusters = (
  grouping_alike (Agree c mode) (BelongTogether c mode []) (length c.registers) clusters (of_agree c mode) (agree_of c mode),
  grouping_alike (BelongTogether c mode []) (Agree c mode) (length c.registers) clusters (agree_of c mode) (of_agree c mode),
)

-- without groups there is nothing to keep apart
pub none_disjoint : (count : ℕ) (groups : List (List ℕ)) → groups ≡ [] → AreDisjoint count groups
none_disjoint count groups none = subst (λ (gs : List (List ℕ)). AreDisjoint count gs) (sym none) (record {
  within = λ i r is. absurd (let low : i < 0 = in_group [] i r is in omega arith);
  some = λ i low. absurd (omega arith);
  rising = λ i j k d below inside. absurd (let e : length (group [] i) ≡ 0 = ap length (get_or_past {X = List ℕ} [] i [] (omega arith)) in omega arith);
  once = λ i j r one other. absurd (let low : i < 0 = in_group [] i r one in omega arith);
})

-- what clusters are by the mode where there are no groups, and why there are none
pub by_mode : (c : Circuit) (mode : Mode) (groups : List (List ℕ)) → groups ≡ [] → (clusters : List (List ℕ)) → IsGroupedClustering c mode groups clusters → IsClustering c mode clusters
by_mode c mode groups none clusters are =
    (bare c mode clusters).0 (subst (λ (gs : List (List ℕ)). IsGroupedClustering c mode gs clusters) none are)

pub ok_by_mode : (c : Circuit) (mode : Mode) (groups : List (List ℕ)) → groups ≡ [] → (result : Result (List (List ℕ)) SplitFault)
    → IfOk result (IsGroupedClustering c mode groups) → IfOk result (IsClustering c mode)
ok_by_mode c mode groups none (Ok clusters) are = by_mode c mode groups none clusters are
ok_by_mode c mode groups none (Err fault) are = are

pub fault_by_mode : (c : Circuit) (mode : Mode) (groups : List (List ℕ)) → groups ≡ [] → (result : Result (List (List ℕ)) SplitFault)
    → IfErr result (IsGroupedFault c mode groups) → IfErr result (IsClusterFault c mode)
fault_by_mode c mode groups none (Ok clusters) is = is
fault_by_mode c mode groups none (Err (TooMany limit)) (at, (clusters, are, many)) = (at, (clusters, by_mode c mode groups none clusters are, many))
fault_by_mode c mode groups none (Err Memory) is = is
