use Rattle.std.proofs.Common.{◌≤◌, ℕ}
use Rattle.ds_period.specs.Step.{IsFirstBetween}
use Rattle.ds_period.proofs.ParallelArcs.{AreFilled}
use Rattle.ds_period.proofs.reading.fill.Given as goal

abbrev pub invariant-loop-k : goal.invariant-loop-k
invariant-loop-k l = record {
  behind : l.first ≤ l.k;
  filled : (u v : ℕ) → IsFirstBetween u v l.arcs l.first → AreFilled u v l.delay l.arcs l.initial.delays l.delays l.k;
}
