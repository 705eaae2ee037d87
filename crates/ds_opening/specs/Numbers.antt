-- Numbers in place of classes.
use Rattle.std.specs.Prelude.{◌≡◌, ◌↔◌, ℕ, ◌+◌, ◌<◌, ◌≤◌, List, length, All, Any, Contains}
use Rattle.std.specs.Prelude.{slice_index}
use Rattle.std.specs.List.Sorted.{IsNonDecreasingBy}

-- what rises along an order of tables and is one for each class rises with these numbers of theirs
abbrev pub RiseWith : List ℕ → List ℕ → (ℕ → ℕ) → Type 0
RiseWith order classes numbers = (n : ℕ → ℕ) → IsNonDecreasingBy n order
    → ((a b : ℕ) → Contains order a → Contains order b
    → slice_index classes a ≡ slice_index classes b → n a ≡ n b)
    → (a b : ℕ) → Contains order a → Contains order b → numbers a ≤ numbers b → n a ≤ n b

-- tables have the same number where they have the same class, and the numbers are below the count
-- and in the order in which the classes come
pub record AreRenumbered (order classes : List ℕ) (count : ℕ) (numbers : List ℕ) : Type 0 where
  pub one_each : length numbers ≡ length classes
  pub below : All (λ n. n < count) numbers
  pub same : (a b : ℕ) → a < length classes → b < length classes
      → (slice_index numbers a ≡ slice_index numbers b
      ↔ slice_index classes a ≡ slice_index classes b)
  pub rising : RiseWith order classes (slice_index numbers)

-- places of the classes of some tables, from 1 on in the order in which these come: no two have the
-- same, and those that have not come have 0
pub record AreClassPlaces (order classes : List ℕ) (count : ℕ) (places : List ℕ) (most : ℕ) : Type 0
  where
    pub long : length places ≡ count
    pub low : (p : ℕ) → slice_index places p ≤ most
    pub few : most ≤ length order
    pub distinct : (p q : ℕ) → 0 < slice_index places p
        → slice_index places p ≡ slice_index places q → p ≡ q
    pub placed : (k : ℕ) → Contains order k → 0 < slice_index places (slice_index classes k)
    pub inhabited : (p : ℕ) → 0 < slice_index places p → Any (λ k. slice_index classes k ≡ p) order
    pub rising : RiseWith order classes (λ k. slice_index places (slice_index classes k))

-- for each class one less than what stands in its place
pub record AreOneLess (classes places numbers : List ℕ) : Type 0 where
  pub one_each : length numbers ≡ length classes
  pub each : (k : ℕ) → k < length classes
      → slice_index numbers k + 1 ≡ slice_index places (slice_index classes k)
