use Rattle.std.proofs.Common.{◌≡◌, ◌<◌, ◌+◌, length, get_or}
use Rattle.ds_latch.specs.Node.{IsNode, nets_of}
use Rattle.ds_latch.specs.declared.node.Node.{Node}
use Rattle.ds_settle.specs.Cone.{IsCone, Parts}
use Rattle.ds_split.specs.Settled.{IsSettling}
use Rattle.ds_split.specs.Cones.{cone_place}
use Rattle.ds_split.proofs.cones.cones_by.Given as goal

abbrev pub invariant-loop-i : goal.invariant-loop-i
invariant-loop-i l = record {
  same : l.finder ≡ l.latches.circuit;
  one_each : length l.cones.items ≡ l.i + 1;
  each : (n : Node) → IsNode l.latches n → IsSettling n → cone_place n < l.i + 1 → (d : Parts) → IsCone l.latches.circuit (nets_of l.latches n) (get_or l.cones.items (cone_place n) d);
}
