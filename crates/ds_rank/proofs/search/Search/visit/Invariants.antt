use Rattle.std.proofs.Common.{ℕ, ◌≤◌, ◌+◌, sum, get_or}
use Rattle.ds_rank.specs.Search.{IsSearch}
use Rattle.ds_rank.proofs.search.Search.visit.Given as goal

abbrev pub invariant-walk : goal.invariant-walk
invariant-walk l = record {
  kept : IsSearch l.edges l.floors l.self;
  root : get_or l.self.color l.root 0 ≤ 1;
  lower : (v : ℕ) → get_or l.self.color v 0 ≤ get_or l.fn.self.color v 0;
}

abbrev pub decreases-walk : goal.decreases-walk
decreases-walk l = sum l.self.next + sum l.self.color
