use Rattle.std.proofs.Common.{◌≡◌, map, take}
use Rattle.ds_opening.specs.Ranked.{ranked_of}
use Rattle.ds_opening.proofs.ranked.with_ranks.Given as goal

abbrev pub invariant-loop-table : goal.invariant-loop-table
invariant-loop-table l = l.all.items ≡ map (ranked_of l.ranks) (take l.table-index l.order)
