use Rattle.std.proofs.Common.{◌≡◌, ◌<◌, ℕ, get_or, length, slice_index}
use Rattle.ds_marked.specs.declared.marked.Arc.{Arc}
use Rattle.ds_runner.proofs.firing_order.rise.Given as goal

abbrev pub invariant-loop-i : goal.invariant-loop-i
invariant-loop-i g l = (k : ℕ) (d : Arc) → k < l.i → k < length l.run.arcs
    → (get_or l.run.arcs k d).tokens ≡ 0
    → slice_index l.places (get_or l.run.arcs k d).source
    < slice_index l.places (get_or l.run.arcs k d).target
