-- A look for a cycle by ranks above floors of zero.
use Rattle.std.proofs.Common.{◌≡◌, ◌∙◌, ◌<◌, ◌≤◌, ◌+◌, ◌^◌, ℕ, List, Option, None, Some, Result, IfOk, IfSome, MatchOption, Vec, Global, length, get_or, arith, ap, subst}
use Rattle.std.proofs.Math.ListN.{replicate}
use Rattle.std.proofs.lemmas.List.{length-replicate}
use Rattle.std.proofs.lemmas.Result.{IfOk-weaker}
use Rattle.ds_base.specs.Greatest.{greatest}
use Rattle.ds_rank.specs.Search.{HasRoom}
use Rattle.ds_rank.proofs.RelatedOrders.{cycle_by}
use Rattle.ds_period.specs.Ranked.{HasRanks, IsSmallCycle}
use Rattle.ds_period.proofs.SearchMeasure.{low_zeros}
use Rattle.ds_period.proofs.Grow.{greatest_zeros}

-- a floor of zero for each of n nodes
pub record AreZeros (floors : List ℕ) (n : ℕ) : Type 0 where
  pub size : length floors ≡ n
  pub none : greatest floors ≡ 0
  pub low : (v : ℕ) → get_or floors v 0 ≤ 0

pub are_zeros : (floors : List ℕ) (n : ℕ) → floors ≡ replicate {A = ℕ} n 0 → AreZeros floors n
are_zeros floors n e = record {
  size = ap (λ (xs : List ℕ). length xs) e ∙ length-replicate n 0;
  none = ap greatest e ∙ greatest_zeros n;
  low = rw e (low_zeros 0 n);
}

-- they leave room
pub zeros_room : (floors : List ℕ) (n : ℕ) → AreZeros floors n → n < 2 ^ 32 → HasRoom floors
zeros_room floors n zeros few v lt = (let low = zeros.low v in omega (arith, zeros.size))

-- the ranks above them
pub ranked : (R : ℕ → ℕ → Type 0) (floors ranks : List ℕ) (n : ℕ) → AreZeros floors n
    → ((u v : ℕ) → R u v → get_or ranks u 0 + 1 ≤ get_or ranks v 0)
    → ((v : ℕ) → v < length floors → get_or ranks v 0 < length floors + greatest floors) → HasRanks R n
ranked R floors ranks n zeros above below = record {
  rank = λ v. get_or ranks v 0;
  above = above;
  below = λ v lt. (let under = below v (omega (arith, zeros.size)) in omega (arith, zeros.size, zeros.none));
}

-- a cycle that is found, and what none shows
module _ (R : ℕ → ℕ → Type 0) (n : ℕ) where
  pub some_found : (o : Option (Vec ℕ Global)) (nodes : Vec ℕ Global) → MatchOption o (HasRanks R n) (λ v. IsSmallCycle R n v.items)
      → o ≡ Some nodes → IsSmallCycle R n nodes.items
  some_found o nodes is e = subst (λ (x : Option (Vec ℕ Global)). MatchOption x (HasRanks R n) (λ v. IsSmallCycle R n v.items)) e is

  pub none_found : (o : Option (Vec ℕ Global)) → MatchOption o (HasRanks R n) (λ v. IsSmallCycle R n v.items)
      → o ≡ None → HasRanks R n
  none_found o is e = subst (λ (x : Option (Vec ℕ Global)). MatchOption x (HasRanks R n) (λ v. IsSmallCycle R n v.items)) e is

module _ (R S : ℕ → ℕ → Type 0) (n : ℕ) (to : (u v : ℕ) → R u v → S u v) where
  -- a cycle of a relation is one of another that holds where the first does
  small_cycle : (nodes : List ℕ) → IsSmallCycle R n nodes → IsSmallCycle S n nodes
  small_cycle nodes cycle = (cycle_by R S to nodes cycle.0, cycle.1)

  -- what is found by a relation is found by another that holds where the first does, and no more
  pub found_by : {E : Type 0} → ((u v : ℕ) → S u v → R u v) → (r : Result (Option (Vec ℕ Global)) E)
      → IfOk r (λ o. MatchOption o (HasRanks R n) (λ nodes. IsSmallCycle R n nodes.items))
      → IfOk r (λ o. MatchOption o (HasRanks S n) (λ nodes. IsSmallCycle S n nodes.items))
  found_by back r is = IfOk-weaker r (λ o. MatchOption o (HasRanks R n) (λ nodes. IsSmallCycle R n nodes.items))
      (λ o. MatchOption o (HasRanks S n) (λ nodes. IsSmallCycle S n nodes.items)) go is
    where
      go : (o : Option (Vec ℕ Global)) → MatchOption o (HasRanks R n) (λ nodes. IsSmallCycle R n nodes.items)
          → MatchOption o (HasRanks S n) (λ nodes. IsSmallCycle S n nodes.items)
      go None ranks = record { rank = ranks.rank; above = λ u v is. ranks.above u v (back u v is); below = ranks.below }
      go (Some nodes) cycle = small_cycle nodes.items cycle

  -- a cycle that is found
  pub cycle_found_by : {E : Type 0} → (r : Result (Option (Vec ℕ Global)) E)
      → IfOk r (λ o. MatchOption o (HasRanks R n) (λ nodes. IsSmallCycle R n nodes.items))
      → IfOk r (λ o. IfSome o (λ nodes. IsSmallCycle S n nodes.items))
  cycle_found_by r is = IfOk-weaker r (λ o. MatchOption o (HasRanks R n) (λ nodes. IsSmallCycle R n nodes.items))
      (λ o. IfSome o (λ nodes. IsSmallCycle S n nodes.items)) go is
    where
      go : (o : Option (Vec ℕ Global)) → MatchOption o (HasRanks R n) (λ nodes. IsSmallCycle R n nodes.items)
          → IfSome o (λ nodes. IsSmallCycle S n nodes.items)
      go None ranks = tt
      go (Some nodes) cycle = small_cycle nodes.items cycle
