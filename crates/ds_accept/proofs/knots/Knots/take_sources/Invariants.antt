use Rattle.std.proofs.Common.{ℕ, ◌≡◌, Some}
use Rattle.ds_marked.specs.Into.{Enters}
use Rattle.ds_marked.proofs.ArcsIntoEvent.{left}
use Rattle.ds_accept.proofs.knots.Knots.take_sources.Given as goal

abbrev pub invariant-sources : goal.invariant-sources
invariant-sources l = (k : ℕ) → l.next ≡ Some k → Enters l.graph.arcs l.fn.event k

abbrev pub decreases-sources : goal.decreases-sources
decreases-sources l = left l.graph.arcs l.next
