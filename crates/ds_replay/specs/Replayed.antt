-- What the answer of a replay says.
use Rattle.std.specs.Prelude.{◌≡◌, ℕ, List, length, Result, Ok, Err}
use Rattle.ds_base.specs.Values.{Row}
use Rattle.ds_lines.specs.Line.{Line}
use Rattle.ds_marked.specs.Graph.{IsLegal}
use Rattle.ds_latch.specs.Plan.{Planned}
use Rattle.ds_fire.specs.Snapshot.{Snapshot}
use Rattle.ds_fire.specs.Fired.{IsAfter, IsReached, IsSnapshotSound}
use Rattle.ds_replay.specs.Replay.{replay_of}
use Rattle.ds_base.specs.declared.refusal.Refusal.{Refusal}
use Rattle.ds_lines.specs.declared.at.At.{At}
use Rattle.ds_base.specs.declared.refusal.Refusal.TheVariants.{Memory, Fault}
use Rattle.ds_replay.specs.declared.fault.ReplayKind.{ReplayKind}

-- the state of a plan and vectors after a legal list of firings
pub record IsReplayed (planned : Planned) (vectors : List Row) (events : List ℕ)
    (kept : Snapshot) : Type 0 where
  pub planned_is : kept.planned ≡ planned
  pub vectors_are : kept.vectors ≡ vectors
  pub legal : IsLegal planned.graph (length vectors) events
  pub after : IsAfter kept events
  pub sound : IsSnapshotSound kept
  pub reached : IsReached kept

-- the state after the events of the lines, or the first fault of the lines, unless memory was
-- wanted
abbrev pub Replays : Planned → List Row → List Line → Result Snapshot (Refusal (At ReplayKind))
    → Type 0
Replays planned vectors lines (Ok kept) =
    (events : List ℕ) × (replay_of planned.graph (length vectors) lines ≡ Ok events)
    × IsReplayed planned vectors events kept
Replays planned vectors lines (Err Memory) = Unit {0}
Replays planned vectors lines (Err (Fault fault)) =
    replay_of planned.graph (length vectors) lines ≡ Err fault
