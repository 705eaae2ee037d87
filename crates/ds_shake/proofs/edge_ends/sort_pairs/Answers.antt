use Rattle.ds_shake.proofs.EndsOrder.{sorted_stands}
use Rattle.ds_shake.proofs.edge_ends.sort_pairs.Goals as goal

pub returns-clause-ok : goal.returns-clause-ok
returns-clause-ok c = sorted_stands _ c.in_ok-sort.ensures.sorted
