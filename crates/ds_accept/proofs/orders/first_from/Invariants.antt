use Rattle.std.proofs.Common.{length, ◌-◌, ◌≤◌}
use Rattle.std.specs.List.{AllWithin}
use Rattle.ds_accept.specs.Steps.{EndsBefore}
use Rattle.ds_accept.proofs.orders.first_from.Given as goal

abbrev pub invariant-loop-place : goal.invariant-loop-place
invariant-loop-place l = record {
  inside : l.place ≤ length l.arcs;
  before : AllWithin (λ arc. EndsBefore arc l.order) l.arcs 0 l.place;
}

abbrev pub decreases-loop-place : goal.decreases-loop-place
decreases-loop-place l = length l.arcs - l.place
