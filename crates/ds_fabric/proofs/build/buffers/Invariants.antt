use Rattle.std.proofs.Common.{◌<◌, ◌≤◌, ℕ, slice_index}
use Rattle.ds_fabric.specs.HistoryList.{stride_of}
use Rattle.ds_fabric.proofs.build.buffers.Given as goal

abbrev pub invariant-loop-node : goal.invariant-loop-node
invariant-loop-node g l = (k : ℕ) → k < l.node
    → (slice_index l.reads k ≤ l.most) × (stride_of l.run k ≤ l.widest)
