-- A walk that comes back to one of its nodes shows a cycle.
use Rattle.std.proofs.Common.{◌≡◌, ◌≢◌, ◌<◌, ◌≤◌, ℕ, zero, suc, List, [], ◌∷◌, ◌++◌, length, get_or, inl, inr, ap, sym, subst, ◌∙◌, arith, drop, take}
use Rattle.std.specs.Prelude.{All, AllPairs, Contains}
use Rattle.std.proofs.lemmas.Bool.{cases_lt, eqb-true}
use Rattle.std.proofs.lemmas.Bool.Decides.{Decides-eqb}
use Rattle.std.proofs.lemmas.List.{get_or_default}
use Rattle.std.proofs.lemmas.List.Elements.{All-contains}
use Rattle.std.proofs.lemmas.List.Kept.{AllPairs-cons}
use Rattle.std.proofs.lemmas.Map.Made.{IsDistinct-from_AllPairs}
use Rattle.std.proofs.lemmas.Map.Steps.{length-le_from_distinct_below}
use Rattle.std.proofs.lemmas.Map.Views.{Contains-from_any}
use Rattle.ds_base.proofs.ListLemmas.{Contains-head}
use Rattle.ds_base.proofs.AppendedPairs.{pairs-between, pairs-left}
use Rattle.ds_rank.specs.Order.{IsCycle, IsWalk}
use Rattle.ds_rank.proofs.Turn.{cycle_at, walk_cut}

-- different numbers below one are no more than it
pub few_apart : (xs : List ℕ) (n : ℕ) → AllPairs (λ a b. a ≢ b) xs → All (λ x. x < n) xs → length xs ≤ n
few_apart xs n once low = length-le_from_distinct_below xs n (IsDistinct-from_AllPairs Decides-eqb xs once)
    (λ x is. All-contains (λ y. y < n) xs x low (Contains-from_any eqb-true x xs is))

-- what is at most the first and each other element is at most each
below_all : (x : ℕ) (xs : List ℕ) (m : ℕ) → m ≤ x → ((j : ℕ) → j < length xs → m ≤ get_or xs j 0)
    → (j : ℕ) → j < length (x ∷ xs) → m ≤ get_or (x ∷ xs) j 0
below_all x xs m first rest zero inside = first
below_all x xs m first rest (suc j) inside = rest j (omega arith)

-- where the least element stands
least_place : (x : ℕ) (xs : List ℕ) → (i : ℕ) × (i < length (x ∷ xs))
    × ((j : ℕ) → j < length (x ∷ xs) → get_or (x ∷ xs) i 0 ≤ get_or (x ∷ xs) j 0)
least_place x [] = (0, omega arith, below_all x [] x (omega arith) (λ j inside. absurd (omega arith)))
least_place x (y ∷ ys) =
    let (i, inside, least) = least_place y ys in
    elim (cases_lt (get_or (y ∷ ys) i 0) x) [
      | inl lower ↦ (suc i, omega arith, below_all x (y ∷ ys) (get_or (y ∷ ys) i 0) (omega arith) least)
      | inr higher ↦ (0, omega arith, below_all x (y ∷ ys) x (omega arith) (λ j within. omega (arith, least j within)))
    ]

-- a walk that closes and comes to no node twice is a cycle, from its least node on
pub closed_cycle : (R : ℕ → ℕ → Type 0) (x : ℕ) (xs : List ℕ) → IsWalk R x xs x → AllPairs (λ a b. a ≢ b) (x ∷ xs)
    → (nodes : List ℕ) × IsCycle R nodes
closed_cycle R x xs walk once =
    let (i, inside, least) = least_place x xs in
    (drop i (x ∷ xs) ++ take i (x ∷ xs), cycle_at R (x ∷ xs) i inside walk (λ j k below within. once j k 0 below within) least)

-- an element with what stands before and behind it
cut_at : (xs : List ℕ) (x : ℕ) → Contains xs x → (before : List ℕ) × (after : List ℕ) × (xs ≡ before ++ x ∷ after)
cut_at [] x (k, inside, is) = absurd (omega arith)
cut_at (y ∷ ys) x (zero, inside, is) = ([], ys, ap (λ z. z ∷ ys) is)
cut_at (y ∷ ys) x (suc k, inside, is) =
    let (before, after, cut) = cut_at ys x (k, omega arith, is) in (y ∷ before, after, ap (λ (zs : List ℕ). y ∷ zs) cut)

-- a walk that comes back to its first node, and to no other twice
pub walk_cycle : (R : ℕ → ℕ → Type 0) (x : ℕ) (xs : List ℕ) (b : ℕ) → IsWalk R x xs b → AllPairs (λ a b. a ≢ b) xs → Contains xs x
    → (nodes : List ℕ) × IsCycle R nodes
walk_cycle R x xs b walk once back =
    let (before, after, cut) = cut_at xs x back in
    let walk2 : IsWalk R x (before ++ x ∷ after) b = subst (λ (ys : List ℕ). IsWalk R x ys b) cut walk in
    let once2 : AllPairs (λ a b. a ≢ b) (before ++ x ∷ after) = subst (λ (ys : List ℕ). AllPairs (λ a b. a ≢ b) ys) cut once in
    let apart : All (λ y. x ≢ y) before =
    λ k d inside e. pairs-between before (x ∷ after) once2 x (k, inside, get_or_default before k x d inside ∙ sym e) (Contains-head x after) in
    closed_cycle R x before (walk_cut R x before x after b walk2).0
    (AllPairs-cons (λ a b. a ≢ b) x before apart (pairs-left before (x ∷ after) once2))
