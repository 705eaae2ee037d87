use Rattle.std.proofs.Common.{ℕ, ◌<◌, None, get_or}
use Rattle.std.specs.Prelude.{All}
use Rattle.ds_design.specs.declared.design.Gate.{Gate}
use Rattle.ds_opening.specs.Scheduled.{IsLower}
use Rattle.ds_opening.proofs.schedule.are_lower.Given as goal

abbrev pub invariant-loop-k : goal.invariant-loop-k
invariant-loop-k l = (k : ℕ) (d : Gate) → k < l.k
    → All (λ net. IsLower l.numbers l.ranks k (get_or l.drivers net None)) (get_or l.gates k d).table.inputs
