-- What a look for a cycle finds.
use Rattle.std.specs.Prelude.{◌<◌, ◌≤◌, ◌+◌, ℕ, List, length}
use Rattle.ds_rank.specs.Order.{IsCycle}

-- ranks below n rise along the relation
pub record HasRanks (R : ℕ → ℕ → Type 0) (n : ℕ) : Type 0 where
  pub rank : ℕ → ℕ
  pub above : (u v : ℕ) → R u v → rank u + 1 ≤ rank v
  pub below : (v : ℕ) → v < n → rank v < n

-- a cycle of the relation, of no more than n nodes
abbrev pub IsSmallCycle : (ℕ → ℕ → Type 0) → ℕ → List ℕ → Type 0
IsSmallCycle R n nodes = IsCycle R nodes × (length nodes ≤ n)
