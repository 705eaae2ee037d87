-- Where a rank rises along each edge, no cycle is.
use Rattle.std.proofs.Common.{◌<◌, ℕ, List, [], ◌∷◌, arith}
use Rattle.ds_rank.specs.Order.{IsCycle, IsWalk}

-- a walk rises with what rises at each step
walk_rises : (R : ℕ → ℕ → Type 0) (rank : ℕ → ℕ) → ((u v : ℕ) → R u v → rank u < rank v)
    → (a : ℕ) (xs : List ℕ) (b : ℕ) → IsWalk R a xs b → rank a < rank b
walk_rises R rank rises a [] b step = rises a b step
walk_rises R rank rises a (x ∷ xs) b (step, more) =
    let first = rises a x step in
    let rest = walk_rises R rank rises x xs b more in
    omega arith

pub no_cycle : (R : ℕ → ℕ → Type 0) (rank : ℕ → ℕ) → ((u v : ℕ) → R u v → rank u < rank v) → (xs : List ℕ) → ¬ IsCycle R xs
no_cycle R rank rises [] cycle = cycle
no_cycle R rank rises (x ∷ xs) cycle = (let up = walk_rises R rank rises x xs x cycle.0 in omega arith)
