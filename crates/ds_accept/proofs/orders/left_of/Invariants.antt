use Rattle.std.proofs.Common.{length, get_or, ◌≤◌, ◌<◌}
use Rattle.std.specs.List.{AllWithin}
use Rattle.ds_marked.specs.declared.marked.Arc.{Arc}
use Rattle.ds_accept.specs.Steps.{EndsBefore}
use Rattle.ds_accept.proofs.Merged.{AreLeftOf}
use Rattle.ds_accept.proofs.orders.left_of.Given as goal

abbrev pub invariant-loop-order : goal.invariant-loop-order
invariant-loop-order l = record {
  inside : l.place ≤ length l.arcs;
  left : AreLeftOf l.orders l.arcs l.order-index l.left.items;
  before : (d : Arc) → l.order-index < length l.orders → AllWithin (λ arc. EndsBefore arc (get_or l.orders l.order-index d)) l.arcs 0 l.place;
}
