-- What workers have stored is what firing stores.
use Rattle.std.specs.Prelude.{◌≡◌, ℕ, List, [], length, map}
use Rattle.std.specs.List.{range_with_len}
use Rattle.ds_base.specs.Values.{Row}
use Rattle.ds_latch.specs.Firing.{State, FiresAll, first_state, held}
use Rattle.ds_latch.specs.Node.{Split, IsNode, number_of}
use Rattle.ds_latch.specs.declared.node.Node.{Node}
use Rattle.ds_latch.specs.Plan.{Planned}
use Rattle.ds_rule.specs.Run.{Run, closing}
use Rattle.ds_rule.specs.Rule.{tickets}
use Rattle.ds_rule.specs.Words.{node_values}
use Rattle.ds_rule.specs.declared.view.View.{View}
use Rattle.ds_fabric.specs.Base.{Base}
use Rattle.ds_fabric.specs.Showing.{IsFabricBegun, IsFiredInOrder, Recorder, Showing}
use Rattle.ds_run.specs.RunOfPlan.{IsRunOf}
use Rattle.ds_run.specs.Finished.{IsFinished, IsRecordOf}

-- the rows that a latch has stored, one for each of its closings
abbrev pub rows_stored : Recorder → ℕ → List Row
rows_stored r l = map (node_values r.shown.view.run l)
    (range_with_len 1 (length (tickets r.shown.view (closing l))))

-- those that a record tells of a node
abbrev pub rows_told : Recorder → Node → List Row
rows_told r n = rows_stored r (number_of n)

-- a state that firing reaches by a list from the first one, and that has stored what a record tells
pub record IsRecorded (s : Split) (vectors : List Row) (r : Recorder) (events : List ℕ)
    (now : State) : Type 0 where
  pub fires : FiresAll s vectors (first_state s) events now
  pub stores : (n : Node) → IsNode s n → now.stored n ≡ rows_told r n

-- by the list of a record firing reaches such a state, whether the run went to its end or not
abbrev pub RecordsStoreAsFired : Type 0
RecordsStoreAsFired = (p : Planned) (vectors : List Row) (r : Recorder) → IsRecordOf p vectors r
    → (events : List ℕ) → IsFiredInOrder r.shown.view.run (tickets r.shown.view) events
    → (now : State) × IsRecorded p.split vectors r events now

-- so it does by the list of a run that went to its end
abbrev pub StoresAsFired : Type 0
StoresAsFired = (p : Planned) (vectors : List Row) (r : Recorder) → IsFinished p vectors r
    → (events : List ℕ) → IsFiredInOrder r.shown.view.run (tickets r.shown.view) events
    → (now : State) × IsRecorded p.split vectors r events now

-- a view shows the first state: no event has fired, and value 0 of each node is the row that it
-- holds
pub record ShowsFirst (s : Split) (v : View) : Type 0 where
  pub none : (e : ℕ) → tickets v e ≡ []
  pub rows : (n : Node) → IsNode s n → node_values v.run (number_of n) 0 ≡ held s (first_state s) n

-- as it is built, the fabric of the run of a plan shows the first state
abbrev pub FabricsShowFirst : Type 0
FabricsShowFirst = (p : Planned) (vectors : List Row) (run : Run) → IsRunOf p vectors run
    → (f : Base) (pass : Showing) → IsFabricBegun run f pass → ShowsFirst p.split pass.view
