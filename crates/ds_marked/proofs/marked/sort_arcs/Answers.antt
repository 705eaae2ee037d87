use Rattle.ds_marked.proofs.ArcComparison.{sorted_stands}
use Rattle.ds_marked.proofs.marked.sort_arcs.Goals as goal

pub returns-clause-ok : goal.returns-clause-ok
returns-clause-ok c = sorted_stands _ c.in_ok-sort.ensures.sorted
