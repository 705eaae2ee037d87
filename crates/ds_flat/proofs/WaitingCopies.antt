-- How many copies of each model wait.
use Rattle.std.proofs.Common.{◌≡◌, ◌≢◌, ℕ, ◌+◌, ◌-◌, ◌<◌, ◌≤◌, true, false, List, [], ◌∷◌, ◌==◌}
use Rattle.std.proofs.Common.{length, get_or, refl, sym, ap, ◌∙◌, subst, arith, inl, inr, nat_lt, eq-eqb, set, length-set, get_or-set_same, get_or-set_other, replicate}
use Rattle.std.specs.List.{list_any}
use Rattle.std.proofs.lemmas.Bool.{cases_Bool, eqb-true}
use Rattle.std.proofs.lemmas.List.{get_or-replicate, length-replicate}
use Rattle.std.proofs.lemmas.List.Elements.{All-head, All-tail, All-cons}
use Rattle.ds_flat.specs.Stack.{AreCounts, times_among}

times_here : (k : ℕ) (places : List ℕ) → times_among k (k ∷ places) ≡ times_among k places + 1
times_here k places = (let e : (k == k) ≡ true = eq-eqb k k refl in rw e refl)

times_other : (k place : ℕ) (places : List ℕ) → (place == k) ≡ false
    → times_among k (place ∷ places) ≡ times_among k places
times_other k place places other = rw other refl

times_few : (k : ℕ) (places : List ℕ) → times_among k places ≤ length places
times_few k [] = omega arith
times_few k (place ∷ places) = elim (cases_Bool (place == k)) [
  | inl same ↦ rw same (omega (arith, times_few k places))
  | inr other ↦ rw other (omega (arith, times_few k places))
]

ltb-true-at : (n : ℕ) → nat_lt 0 (n + 1) ≡ true
ltb-true-at n = grind arith

times_some : (k : ℕ) (places : List ℕ) → nat_lt 0 (times_among k places)
    ≡ list_any (λ other. other == k) places
times_some k [] = refl
times_some k (place ∷ places) = elim (cases_Bool (place == k)) [
  | inl same ↦ rw same (ltb-true-at (times_among k places))
  | inr other ↦ (let e : times_among k (place ∷ places) ≡ times_among k places = times_other k place places other in
      rw (e, other) (times_some k places))
]

-- another place
apart : (k place : ℕ) → (place == k) ≡ false → k ≢ place
apart k place other same = (let e : (place == k) ≡ true = eq-eqb place k (sym same) in
    absurd (let f : true ≡ false = sym e ∙ other in cc))

pub counts_push : (counts places more : List ℕ) (place value : ℕ) → AreCounts counts places
    → place < length counts → value ≡ get_or counts place 0 + 1 → more ≡ set counts place value
    → AreCounts more (place ∷ places)
counts_push counts places more place value are inside one is =
    let long : length more ≡ length counts = ap length is ∙ length-set counts place value in
    record {
      within = All-cons (λ (p : ℕ). p < length more) place places (omega arith)
          (λ k d below. subst (λ n. get_or places k d < n) (sym long) (are.within k d below));
      counted = λ k below.
          elim (cases_Bool (place == k)) [
            | inl same ↦ (
                let here : place ≡ k = eqb-true place k same in
                let e : get_or more k 0 ≡ value = ap (λ xs. get_or xs k 0) is
                ∙ (ap (λ j. get_or (set counts place value) j 0) (sym here)
                ∙ get_or-set_same counts place value 0 inside) in
                let f : get_or counts place 0 ≡ times_among k places =
                are.counted place inside ∙ ap (λ j. times_among j places) here in
                rw same (omega arith))
            | inr other ↦ (
                let e : get_or more k 0 ≡ get_or counts k 0 = ap (λ xs. get_or xs k 0) is
                ∙ get_or-set_other counts place k value 0 (apart k place other) in
                e ∙ (are.counted k (omega arith) ∙ sym (times_other k place places other)))
          ];
    }

pub counts_top : (counts places : List ℕ) (place : ℕ) → AreCounts counts (place ∷ places)
    → place < length counts
counts_top counts places place are = All-head (λ (p : ℕ). p < length counts) place places are.within

pub counts_positive : (counts places : List ℕ) (place : ℕ) → AreCounts counts (place ∷ places)
    → 1 ≤ get_or counts place 0
counts_positive counts places place are =
    let e = are.counted place (counts_top counts places place are) in
    let f = times_here place places in omega arith

pub counts_pop : (counts places less : List ℕ) (place value : ℕ) → AreCounts counts (place ∷ places)
    → value ≡ get_or counts place 0 - 1 → less ≡ set counts place value → AreCounts less places
counts_pop counts places less place value are one is =
    let inside : place < length counts = counts_top counts places place are in
    let long : length less ≡ length counts = ap length is ∙ length-set counts place value in
    record {
      within = λ k d below. subst (λ n. get_or places k d < n) (sym long)
          (All-tail (λ (p : ℕ). p < length counts) place places are.within k d below);
      counted = λ k below.
          elim (cases_Bool (place == k)) [
            | inl same ↦ (
                let here : place ≡ k = eqb-true place k same in
                let e : get_or less k 0 ≡ value = ap (λ xs. get_or xs k 0) is
                ∙ (ap (λ j. get_or (set counts place value) j 0) (sym here)
                ∙ get_or-set_same counts place value 0 inside) in
                let f : get_or counts place 0 ≡ times_among place places + 1 =
                are.counted place inside ∙ times_here place places in
                let g : times_among place places ≡ times_among k places = ap (λ j. times_among j places) here in
                omega arith)
            | inr other ↦ (
                let e : get_or less k 0 ≡ get_or counts k 0 = ap (λ xs. get_or xs k 0) is
                ∙ get_or-set_other counts place k value 0 (apart k place other) in
                e ∙ (are.counted k (omega arith) ∙ times_other k place places other))
          ];
    }

pub counts_has : (counts places : List ℕ) (place : ℕ) → AreCounts counts places
    → place < length counts
    → nat_lt 0 (get_or counts place 0) ≡ list_any (λ other. other == place) places
counts_has counts places place are inside =
    ap (λ n. nat_lt 0 n) (are.counted place inside) ∙ times_some place places

pub counts_few : (counts places : List ℕ) (place : ℕ) → AreCounts counts places
    → place < length counts → get_or counts place 0 ≤ length places
counts_few counts places place are inside =
    let e = are.counted place inside in omega (arith, times_few place places)

pub counts_none : (counts : List ℕ) (models : ℕ) → counts ≡ replicate models 0
    → AreCounts counts []
counts_none counts models zeros =
    subst (λ (all : List ℕ). AreCounts all []) (sym zeros) (record {
      within = λ k d below. absurd (omega arith);
      counted = λ k inside. get_or-replicate models k 0 0 (omega (arith, length-replicate {A = ℕ} models 0));
    })
