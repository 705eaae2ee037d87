-- Classes numbered anew.
use Rattle.std.specs.Prelude.{◌≡◌, ◌↔◌, ℕ, ◌+◌, ◌<◌, ◌≤◌, List, length, All, slice_index}

-- tables have the same class where they had before, and the classes are below the count
pub record AreAnew (old : List ℕ) (count : ℕ) (new : List ℕ) : Type 0 where
  pub one_each : length new ≡ length old
  pub below : All (λ n. n < count) new
  pub same : (a b : ℕ) → a < length old → b < length old
      → (slice_index new a ≡ slice_index new b ↔ slice_index old a ≡ slice_index old b)

-- the first tables have their classes anew: each has one less than what stands in the place of its
-- class before, classes that have not come have 0 there, and no two have the same
pub record AreAnewSoFar (old : List ℕ) (count n : ℕ) (places : List ℕ) (next : ℕ)
    (new : List ℕ) : Type 0 where
  pub one_each : length new ≡ n
  pub long : length places ≡ count
  pub low : (p : ℕ) → slice_index places p ≤ next
  pub few : next ≤ n
  pub distinct : (p q : ℕ) → 0 < slice_index places p → slice_index places p ≡ slice_index places q
      → p ≡ q
  pub is : (k : ℕ) → k < n
      → slice_index new k + 1 ≡ slice_index places (slice_index old k)
