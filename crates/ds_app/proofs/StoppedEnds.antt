-- How `run` ends once its plan is made, whatever failed before.
use Rattle.std.proofs.Common.{◌≡◌, ◌≤◌, ℕ, Bool, List, Option, None, Some, Result, inl, inr, refl, subst}
use Rattle.ds_outside.specs.Held.{Held}
use Rattle.ds_outside.specs.declared.files.Which.{Which}
use Rattle.ds_design.specs.Circuit.{Circuit}
use Rattle.ds_design.specs.Rows.{Rows}
use Rattle.ds_latch.specs.Plan.{Planned}
use Rattle.ds_run.specs.RunText.{IsRunText}
use Rattle.ds_stage.specs.declared.stop.Stop.{Stop}
use Rattle.ds_stage.specs.Ends.{Ends, Output, RoseIn}
use Rattle.ds_stage.specs.StreamStage.{most_vectors}
use Rattle.ds_stage.proofs.StageEnds.{ends_more, vectors_since}
use Rattle.ds_stage.proofs.Streamed.{streamed_since}
use Rattle.ds_app.specs.RunStage.{planned_run_stage, stopped_run_stage}
use Rattle.ds_app.proofs.JobsLeaveNothing.{stopped_nothing}

-- a stopped run of files that hold the same, whatever failed since earlier
pub stopped_since : {A : Type 0} (held later : List ℕ → Held) (vec : List ℕ) (log : Bool) (jobs stop : ℕ) (c : Circuit) (p : Planned)
    (before mid now : Which → List ℕ → ℕ) → later ≡ held → ((w : Which) (n : List ℕ) → before w n ≤ mid w n) → (out : Output) (result : Result A Stop)
    → Ends (stopped_run_stage later vec log jobs stop c p) (RoseIn mid now) out result
    → Ends (stopped_run_stage held vec log jobs stop c p) (RoseIn before now) out result
stopped_since {A} held later vec log jobs stop c p before mid now same less out result is =
    subst (λ (h : List ℕ → Held). Ends (stopped_run_stage h vec log jobs stop c p) (RoseIn before now) out result) same
    (ends_more (stopped_run_stage later vec log jobs stop c p) (RoseIn mid now) (RoseIn before now) out (stopped_nothing later vec log jobs stop c p) unread result is)
  where
    unread : (line : List ℕ) → (stopped_run_stage later vec log jobs stop c p).unread (RoseIn mid now) line → (stopped_run_stage later vec log jobs stop c p).unread (RoseIn before now) line
    unread line (inl failed) = inl ((vectors_since later later vec c before mid now refl less).unread line failed)
    unread line (inr (rows, means, none)) = absurd none

-- the same with a stop or without one
pub planned_run_since : {A : Type 0} (held later : List ℕ → Held) (vec : List ℕ) (log : Bool) (jobs : ℕ) (stop : Option ℕ) (c : Circuit) (p : Planned)
    (before mid now : Which → List ℕ → ℕ) → later ≡ held → ((w : Which) (n : List ℕ) → before w n ≤ mid w n) → (out : Output) (result : Result A Stop)
    → Ends (planned_run_stage later vec log jobs stop c p) (RoseIn mid now) out result
    → Ends (planned_run_stage held vec log jobs stop c p) (RoseIn before now) out result
planned_run_since held later vec log jobs None c p before mid now same less out result is =
    streamed_since held later vec c (most_vectors log) (λ (rows : Rows) (text : List ℕ). (p.split.circuit ≡ c) × IsRunText log p rows.rows text) before mid now same less out result is
planned_run_since held later vec log jobs (Some stop) c p before mid now same less out result is =
    stopped_since held later vec log jobs stop c p before mid now same less out result is
