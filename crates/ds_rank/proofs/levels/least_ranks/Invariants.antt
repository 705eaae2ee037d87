use Rattle.std.proofs.Common.{◌≡◌, ℕ, [], ◌<◌, get_or}
use Rattle.ds_rank.specs.Search.{IsSearch}
use Rattle.ds_rank.proofs.levels.least_ranks.Given as goal

abbrev pub invariant-loop-node : goal.invariant-loop-node
invariant-loop-node l = record {
  kept : IsSearch l.edges l.floors l.search;
  empty : l.search.path ≡ [];
  done : (v : ℕ) → v < l.node → get_or l.search.color v 0 ≡ 0;
}
