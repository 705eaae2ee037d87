use Rattle.std.proofs.Common.{◌+◌, ◌≤◌, slice_index}
use Rattle.ds_marked.proofs.ArcsIntoEvent.{IsWalked, left}
use Rattle.ds_marked.proofs.marked.Marked.lacking.Given as goal

abbrev pub invariant-walk : goal.invariant-walk
invariant-walk l = IsWalked (λ arc. slice_index l.counts l.event + 1 ≤ slice_index l.counts arc.source + arc.tokens) l.self.arcs l.event l.next

abbrev pub decreases-walk : goal.decreases-walk
decreases-walk l = left l.self.arcs l.next
