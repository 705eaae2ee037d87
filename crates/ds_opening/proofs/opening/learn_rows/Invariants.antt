use Rattle.std.proofs.Common.{ℕ, List, length}
use Rattle.ds_base.specs.Values.{Row}
use Rattle.ds_opening.specs.Noted.{AreReadRows, IsAsLong}
use Rattle.ds_opening.proofs.RowsOfNodes.{IsReadTo}
use Rattle.ds_opening.proofs.opening.learn_rows.Given as goal

abbrev pub invariant-rows : goal.invariant-rows
invariant-rows l = record {
  same : IsAsLong l.fn.scratch l.scratch;
  read : (foreseen : Row) (nodes : List ℕ)
      → AreReadRows l.bits l.first l.opening l.fn.scratch foreseen nodes
      → IsReadTo l.bits l.first l.opening l.fn.scratch foreseen nodes l.rest l.scratch;
}

abbrev pub decreases-rows : goal.decreases-rows
decreases-rows l = length l.rest
