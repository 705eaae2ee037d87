use Rattle.std.specs.List.{AllWithin}
use Rattle.ds_accept.specs.Masks.{IsClosedAt, IsSwept}
use Rattle.ds_accept.proofs.sweep.sweep_sum.Given as goal

abbrev pub invariant-loop-arc : goal.invariant-loop-arc
invariant-loop-arc l = IsSwept l.arcs l.events l.bound (λ masks. AllWithin (IsClosedAt l.events l.bound masks l.token_sum) l.arcs 0 l.arc-index)
    l.fn.masks l.masks l.changed
