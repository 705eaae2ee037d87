-- How often a net stands in a list.
use Rattle.std.proofs.Common.{◌≡◌, ◌≢◌, ◌∙◌, ℕ, suc, ◌+◌, ◌<◌, ◌≤◌, List, [], ◌∷◌, length, get_or, refl, sym, ap, arith, inl, inr, ◌==◌, cond, map, take, length-take, length-set, get_or-set_same, get_or-set_other}
use Rattle.std.specs.Prelude.{All, AllPairs, Contains}
use Rattle.std.proofs.lemmas.Bool.{cases_eq}
use Rattle.std.proofs.lemmas.Bool.Decides.{eqb_tells}
use Rattle.std.proofs.lemmas.List.Kept.{AllPairs-cons}
use Rattle.std.proofs.lemmas.List.Sums.{count_by-le-length, sum_by-append, sum_by-cons}
use Rattle.std.proofs.lemmas.List.{get_or_default, take_more}
use Rattle.std.proofs.Math.ListN.{set}
use Rattle.ds_base.proofs.ListLemmas.{cases_Contains, Contains-tail, Contains-split}
use Rattle.ds_netlist.specs.Steps.{AreTimes, times_driven}
use Rattle.ds_netlist.specs.Drivers.{drivers_in}
use Rattle.ds_netlist.specs.declared.fault.Driver.{Driver}

pub times_same : (net x : ℕ) (xs : List ℕ) → x ≡ net → times_driven net (x ∷ xs) ≡ times_driven net xs + 1
times_same net x xs same = elim (eqb_tells x net) [
  | inl (is, e) ↦ sum_by-cons (λ other. cond (other == net) 1 0) x xs ∙ rw is (omega arith)
  | inr (is, ne) ↦ absurd (ne same)
]

pub times_other : (net x : ℕ) (xs : List ℕ) → x ≢ net → times_driven net (x ∷ xs) ≡ times_driven net xs
times_other net x xs other = elim (eqb_tells x net) [
  | inl (is, e) ↦ absurd (other e)
  | inr (is, ne) ↦ sum_by-cons (λ other. cond (other == net) 1 0) x xs ∙ rw is (omega arith)
]

pub present : (net : ℕ) (xs : List ℕ) → Contains xs net → 0 < times_driven net xs
present net [] (k, inside, is) = absurd (omega arith)
present net (x ∷ xs) c = elim (cases_eq x net) [
  | inl same ↦ omega (arith, times_same net x xs same)
  | inr ne ↦ elim (Contains-split x xs net c) [
    | inl e ↦ absurd (ne e)
    | inr d ↦ omega (arith, times_other net x xs ne, present net xs d)
  ]
]

pub absent : (net : ℕ) (xs : List ℕ) → ¬ Contains xs net → times_driven net xs ≡ 0
absent net [] none = refl
absent net (x ∷ xs) none = elim (cases_eq x net) [
  | inl same ↦ absurd (none (0, omega arith, same))
  | inr ne ↦ times_other net x xs ne ∙ absent net xs (λ c. none (Contains-tail x xs net c))
]

-- a net that is counted is there
pub counted_in : (net : ℕ) (xs : List ℕ) → 0 < times_driven net xs → Contains xs net
counted_in net xs some = elim (cases_Contains xs net) [
  | inl c ↦ c
  | inr none ↦ absurd (let zero_times = absent net xs none in omega arith)
]

-- nets that stand at most once differ
pub once_differ : (xs : List ℕ) → ((net : ℕ) → times_driven net xs < 2) → AllPairs (λ a b. a ≢ b) xs
once_differ [] few = λ i j d below inside. absurd (omega arith)
once_differ (x ∷ xs) few = AllPairs-cons (λ a b. a ≢ b) x xs
    (λ k d inside same.
    let one : Contains xs x = (k, inside, default k d inside ∙ sym same) in
    let two = present x xs one in
    let all = few x in
    omega (arith, times_same x x xs refl))
    (once_differ xs (λ net.
    let all = few net in
    elim (cases_eq x net) [
      | inl same ↦ omega (arith, times_same net x xs same)
      | inr ne ↦ omega (arith, times_other net x xs ne)
    ]))
  where
    default : (k d : ℕ) → k < length xs → get_or xs k x ≡ get_or xs k d
    default k d inside = get_or_default xs k x d inside

-- nets that differ stand at most once
pub differ_once : (xs : List ℕ) → AllPairs (λ a b. a ≢ b) xs → (net : ℕ) → times_driven net xs < 2
differ_once [] pairs net = omega arith
differ_once (x ∷ xs) pairs net =
    let rest = differ_once xs (λ i j d below inside. pairs (suc i) (suc j) d (omega arith) (omega arith)) net in
    elim (cases_eq x net) [
      | inl same ↦
          let none = absent net xs (λ (k, inside, is). pairs 0 (suc k) net (omega arith) (omega arith) (same ∙ sym is)) in
          omega (arith, times_same net x xs same)
      | inr ne ↦ omega (arith, times_other net x xs ne)
    ]

-- a net has as many drivers as it is driven times
pub length_drivers : (pairs : List (ℕ × Driver)) (net : ℕ) → length (drivers_in pairs net) ≡ times_driven net (map (λ pair. pair.0) pairs)
length_drivers [] net = refl
length_drivers (p ∷ ps) net = elim (eqb_tells p.0 net) [
  | inl (is, e) ↦ rw is (omega (arith, times_same net p.0 (map (λ pair. pair.0) ps) e, length_drivers ps net))
  | inr (is, ne) ↦ rw is (omega (arith, times_other net p.0 (map (λ pair. pair.0) ps) ne, length_drivers ps net))
]

-- one more net is counted
pub times_more : (net : ℕ) (xs : List ℕ) (i : ℕ) → i < length xs
    → times_driven net (take (i + 1) xs) ≡ times_driven net (take i xs) + times_driven net (get_or xs i 0 ∷ [])
times_more net xs i inside =
    ap (times_driven net) (take_more xs i 0 inside) ∙ sum_by-append (λ other. cond (other == net) 1 0) (take i xs) (get_or xs i 0 ∷ [])

pub counted_more : (count : ℕ) (nets counts : List ℕ) (i net value : ℕ) → i < length nets → net ≡ get_or nets i 0 → net < count
    → value ≡ get_or counts net 0 → AreTimes count (take i nets) counts → AreTimes count (take (i + 1) nets) (set counts net (value + 1))
counted_more count nets counts i net value inside is low same h = record {
  size = length-set counts net (value + 1) ∙ h.size;
  each = λ other below. (
      let more = times_more other nets i inside in
      let old = h.each other below in
      elim (cases_eq net other) [
        | inl e ↦
            let new : get_or (set counts net (value + 1)) net 0 ≡ value + 1 = get_or-set_same counts net (value + 1) 0 (omega (arith, h.size)) in
            let one = times_same other (get_or nets i 0) [] (sym is ∙ e) in
            rw (← e) (omega (arith, rw (← e) at more, rw (← e) at old, rw (← e) at one))
        | inr ne ↦
            let new : get_or (set counts net (value + 1)) other 0 ≡ get_or counts other 0 = get_or-set_other counts net other (value + 1) 0 (λ e. ne (sym e)) in
            let none = times_other other (get_or nets i 0) [] (λ e. ne (is ∙ e)) in
            omega arith
      ]);
}

pub times_few : (net : ℕ) (xs : List ℕ) (i : ℕ) → times_driven net (take i xs) ≤ length xs
times_few net xs i = omega (arith, count_by-le-length (λ other. other == net) (take i xs), length-take i xs)

-- the item of a loop, as a place gives it
pub item_at : (xs : List ℕ) (i item x : ℕ) → i < length xs → item ≡ get_or xs i item → x ≡ item → x ≡ get_or xs i 0
item_at xs i item x inside is same = same ∙ (is ∙ get_or_default xs i item 0 inside)

pub item_low : (count : ℕ) (xs : List ℕ) (i x : ℕ) → i < length xs → x ≡ get_or xs i 0 → All (λ y. y < count) xs → x < count
item_low count xs i x inside is all = let low = all i 0 inside in omega arith
