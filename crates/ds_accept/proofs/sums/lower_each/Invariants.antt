use Rattle.std.specs.List.{AllWithin}
use Rattle.ds_accept.specs.Lowered.{IsLowAt, IsLowering}
use Rattle.ds_accept.proofs.sums.lower_each.Given as goal

abbrev pub invariant-loop-arc : goal.invariant-loop-arc
invariant-loop-arc l = IsLowering l.arcs (λ sums. AllWithin (IsLowAt sums) l.arcs 0 l.arc-index) l.fn.sums.items l.sums.items l.changed
