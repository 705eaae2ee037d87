use Rattle.std.proofs.Common.{◌≡◌, ◌<◌, ℕ, slice_index}
use Rattle.ds_rule.specs.Run.{node_of}
use Rattle.ds_runner.proofs.firing_order.stand_in_place.Given as goal

abbrev pub invariant-loop-i : goal.invariant-loop-i
invariant-loop-i g l = (j : ℕ) → j < l.i → (node_of l.run (slice_index l.order j) < l.run.nodes)
    × (slice_index l.places (slice_index l.order j) ≡ j)
