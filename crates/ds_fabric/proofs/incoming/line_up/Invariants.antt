use Rattle.std.proofs.Common.{◌≡◌, ◌<◌, ◌≤◌, ◌-◌, length}
use Rattle.ds_fabric.specs.Chained.{arc_numbered}
use Rattle.ds_fabric.specs.Into.{IsLinedUp}
use Rattle.ds_fabric.proofs.incoming.line_up.Given as goal

abbrev pub invariant-back : goal.invariant-back
invariant-back g l = record {
  below : l.at ≤ length l.fn.run.arcs;
  hit : 0 < l.at → (arc_numbered l.fn.run (l.at - 1)).target ≡ l.fn.event;
  lined : IsLinedUp l.fn.run l.fn.event l.at l.fn.arcs.items l.fn.numbers.items l.arcs.items l.numbers.items;
}

abbrev pub decreases-back : goal.decreases-back
decreases-back g l = l.at
