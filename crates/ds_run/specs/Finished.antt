-- The record of a plan's run on vectors.
use Rattle.std.specs.Prelude.{◌≡◌, ℕ, ◌+◌, ◌<◌, List, length, slice_index}
use Rattle.ds_base.specs.Values.{Row}
use Rattle.ds_latch.specs.Node.{Split, members, number_of}
use Rattle.ds_latch.specs.declared.node.Node.TheVariants.{Slave}
use Rattle.ds_latch.specs.Plan.{Planned, IsPlan}
use Rattle.ds_rule.specs.Run.{closing}
use Rattle.ds_rule.specs.Log.{Recorded}
use Rattle.ds_rule.specs.Rule.{tickets}
use Rattle.ds_rule.specs.Words.{node_values}
use Rattle.ds_fabric.specs.Showing.{Recorder}
use Rattle.ds_runner.specs.Whole.{IsWhole}
use Rattle.ds_run.specs.RunOfPlan.{IsRunOf}

-- a record of firings of a plan's run, whether it went to its end or not
pub record IsRecordOf (p : Planned) (vectors : List Row) (r : Recorder) : Type 0 where
  pub accepted : IsPlan p.split p.graph
  pub planned : IsRunOf p vectors r.shown.view.run
  pub recorded : Recorded r.shown.view.run (tickets r.shown.view) r.many

-- the record of a run that went to its end
pub record IsFinished (p : Planned) (vectors : List Row) (r : Recorder) : Type 0 where
  pub accepted : IsPlan p.split p.graph
  pub planned : IsRunOf p vectors r.shown.view.run
  pub whole : IsWhole r.shown.view.run r

-- the record of a run on so many vectors that went to its end
abbrev pub IsFinishedOn : Planned → ℕ → Recorder → List Row → Type 0
IsFinishedOn p turns r vectors = IsFinished p vectors r × (length vectors ≡ turns)

-- the record has what each slave has stored in so many turns, a value a register of its cluster
pub record HasSlaves (s : Split) (turns : ℕ) (r : Recorder) : Type 0 where
  pub near : (i : ℕ) → i < length s.clusters → number_of (Slave i) < r.shown.view.run.design_nodes
  pub stored : (i : ℕ) → i < length s.clusters → (k : ℕ) → k < turns
      → k < length (tickets r.shown.view (closing (number_of (Slave i))))
  pub wide : (i : ℕ) → i < length s.clusters
      → slice_index r.shown.view.run.lengths (number_of (Slave i)) ≡ length (members s i)
  pub full : (i : ℕ) → i < length s.clusters → (k : ℕ) → k < turns
      → length (node_values r.shown.view.run (number_of (Slave i)) (k + 1)) ≡ length (members s i)
