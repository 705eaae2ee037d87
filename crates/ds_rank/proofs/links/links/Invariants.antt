use Rattle.std.proofs.Common.{◌≡◌, length}
use Rattle.ds_rank.specs.Search.{IsLinkedTo}
use Rattle.ds_rank.proofs.links.links.Given as goal

abbrev pub invariant-loop-k : goal.invariant-loop-k
invariant-loop-k l = record {
  size : length l.heads.items ≡ l.count;
  linked : IsLinkedTo l.count l.edges l.k l.heads.items l.link.items;
}
