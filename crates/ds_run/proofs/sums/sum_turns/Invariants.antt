use Rattle.std.proofs.Common.{◌≡◌, ◌≤◌, ◌*◌, List}
use Rattle.ds_base.specs.Values.{Row}
use Rattle.ds_run.specs.RunOfPlan.{AreValues}
use Rattle.ds_run.specs.TraceRows.{HasLine}
use Rattle.ds_run.specs.Finished.{IsFinishedOn}
use Rattle.ds_run.specs.Summed.{ones_in}
use Rattle.ds_run.proofs.Summed.{IsFoldedTo}
use Rattle.ds_run.proofs.sums.sum_turns.Given as goal

abbrev pub invariant-loop-k : goal.invariant-loop-k
invariant-loop-k l = record {
  line : HasLine l.stored.plan.now.split l.line;
  registers : (vectors : List Row) → IsFinishedOn l.stored.plan.now l.stored.turns l.stored.recorded.now vectors
      → (values : AreValues l.stored.plan.now.split vectors l.stored.recorded.now.shown.view.run)
      → l.line.registers ≡ values.state l.k;
  ones : (vectors : List Row) → IsFinishedOn l.stored.plan.now l.stored.turns l.stored.recorded.now vectors
      → (values : AreValues l.stored.plan.now.split vectors l.stored.recorded.now.shown.view.run)
      → l.ones ≡ ones_in l.stored.plan.now.split.circuit values.nets l.k;
  few : l.ones ≤ l.k * 4294967296;
  folded : (vectors : List Row) → IsFinishedOn l.stored.plan.now l.stored.turns l.stored.recorded.now vectors
      → IsFoldedTo l.stored.plan.now.split vectors l.k l.line.registers l.fold;
}
