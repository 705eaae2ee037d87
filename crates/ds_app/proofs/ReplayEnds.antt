-- How `replay` ends behind its plan.
use Rattle.std.proofs.Common.{◌≡◌, ℕ, ◌≤◌, Bool, List, Result, Err, inl, inr, subst}
use Rattle.ds_base.specs.Values.{Row}
use Rattle.ds_outside.specs.declared.files.Which.{Which}
use Rattle.ds_outside.specs.declared.files.Which.TheVariants.{Log}
use Rattle.ds_outside.specs.Held.{Held}
use Rattle.ds_design.specs.Circuit.{Circuit}
use Rattle.ds_design.specs.Rows.{Rows}
use Rattle.ds_latch.specs.Plan.{Planned}
use Rattle.ds_cmd.specs.declared.replay.ReplayJob.{ReplayJob}
use Rattle.ds_fire.specs.Snapshot.{Snapshot}
use Rattle.ds_stage.specs.declared.stop.Stop.{Stop}
use Rattle.ds_stage.specs.declared.stop.Stop.TheVariants.{Refused, Unread, Unwritten, Memory}
use Rattle.ds_stage.specs.Stage.{OfFile, Stage, giving, then_stage}
use Rattle.ds_stage.specs.Stages.{netlist_stage, vectors_stage}
use Rattle.ds_stage.specs.PlanStage.{planned_stage}
use Rattle.ds_replay.specs.ReplayText.{IsReplayText}
use Rattle.ds_replay.specs.Kept.{IsKeptText}
use Rattle.ds_stage.specs.ReplayStage.{kept_stage, log_stage, replayed_stage}
use Rattle.ds_app.specs.JobStages.{replay_stage}
use Rattle.ds_stage.specs.Ends.{Ends, Never, Output, RoseIn, Stops}
use Rattle.ds_stage.proofs.Stages.{IsWider, widened}
use Rattle.ds_stage.proofs.StageEnds.{ended_first, ends_after, gives_more, rose_since, vectors_since}
use Rattle.ds_stage.proofs.StagesLeaveNothing.{log_nothing, vectors_nothing}
use Rattle.ds_app.proofs.PlannedEnds.{IsLater, ends_planned, later_still}

-- what is kept of a log that was read later, of files that hold the same
pub log_since : (held later : List ℕ → Held) (log : List ℕ) (planned : Planned) (vectors : List Row) (before mid now : Which → List ℕ → ℕ) → later ≡ held
    → ((w : Which) (n : List ℕ) → before w n ≤ mid w n)
    → IsWider (kept_stage later log planned vectors) (kept_stage held log planned vectors) (RoseIn mid now) (RoseIn before now)
log_since held later log planned vectors before mid now same less =
    subst (λ (h : List ℕ → Held). IsWider (kept_stage later log planned vectors) (kept_stage h log planned vectors) (RoseIn mid now) (RoseIn before now)) same
    (record {
      means = λ a is. is;
      refused = λ line is. is;
      unread = λ line either. elim either [
        | inl read ↦ elim read [
          | inl (rose, spelt) ↦ inl (inl (rose_since (before Log log) (mid Log log) (now Log log) (less Log log) rose, spelt))
          | inr (lines, is, none) ↦ absurd none
        ]
        | inr (events, is, none) ↦ absurd none
      ];
    })

-- what is kept of a log stops where its log does
pub log_stops : (held : List ℕ → Held) (log : List ℕ) (planned : Planned) (vectors : List Row) (more : OfFile) (stop : Stop)
    → Stops (kept_stage held log planned vectors) more stop → Stops (log_stage held log planned vectors) more stop
log_stops held log planned vectors more (Refused line) is = elim is [ inl here ↦ here | inr (events, means, none) ↦ absurd none ]
log_stops held log planned vectors more (Unread line) is = elim is [ inl here ↦ here | inr (events, means, none) ↦ absurd none ]
log_stops held log planned vectors more Unwritten is = is
log_stops held log planned vectors more Memory is = tt

-- `replay`, once the plan is made
abbrev pub logged_job : (List ℕ → Held) → List ℕ → List ℕ → Bool → Circuit → Planned → Stage (List ℕ)
logged_job held vec log transparent c p = then_stage (vectors_stage held vec c) (λ (vectors : Rows). replayed_stage held log transparent p vectors.rows)

module _ {F : Type 0} (told : F → List ℕ → Held) (faults : F → Which → List ℕ → ℕ) (files : F) (job : ReplayJob) where
  -- all its stages
  abbrev whole : Stage (List ℕ)
  whole = then_stage (netlist_stage (told files) job.net) (replay_stage (told files) job)

  module _ (read : F) (netlist : IsLater told faults files read) (c : Circuit) (accepted : (netlist_stage (told files) job.net).means c)
      (made : F) (plan : IsLater told faults read made) (p : Planned) (is_plan : (planned_stage (told read) job.net job.graph job.groups job.clusters job.slack c).means p) where
    -- behind the vectors
    abbrev behind : Rows → Stage (List ℕ)
    behind rows = replayed_stage (told files) job.log job.transparent p rows.rows

    -- behind the plan it ends as what stands there does
    behind_plan : (now : F) (out : Output) (result : Result (Unit {0}) Stop)
        → Ends {A = Unit {0}} (logged_job (told files) job.vec job.log job.transparent c p) (RoseIn (faults files) (faults now)) out result
        → Ends {A = Unit {0}} whole (RoseIn (faults files) (faults now)) out result
    behind_plan now out result ends =
        ends_planned told faults files job.net job.graph job.groups job.clusters job.slack (logged_job (told files) job.vec job.log job.transparent) read netlist c accepted p is_plan now out result ends

    -- the vectors of the files behind the plan are those of the files at first
    vectors_here : (now : F) → IsWider (vectors_stage (told made) job.vec c) (vectors_stage (told files) job.vec c) (RoseIn (faults made) (faults now)) (RoseIn (faults files) (faults now))
    vectors_here now =
        let later : IsLater told faults files made = later_still told faults files read made netlist plan in
        vectors_since (told files) (told made) job.vec c (faults files) (faults made) (faults now) later.same_held later.never_falls

    pub stops_vectors : (now : F) (out : Output) (stop : Stop) → out.new ≡ out.old
        → Stops (vectors_stage (told made) job.vec c) (RoseIn (faults made) (faults now)) stop
        → Ends {A = Unit {0}} whole (RoseIn (faults files) (faults now)) out (Err stop)
    stops_vectors now out stop same is =
        let unread : Stops (vectors_stage (told files) job.vec c) (RoseIn (faults files) (faults now)) stop =
        widened {A = Rows} (vectors_stage (told made) job.vec c) (vectors_stage (told files) job.vec c)
        (RoseIn (faults made) (faults now)) (RoseIn (faults files) (faults now)) (vectors_here now) (Err stop) is in
        behind_plan now out (Err stop)
        (ended_first (Unit {0}) (vectors_stage (told files) job.vec c) behind (RoseIn (faults files) (faults now)) out stop (vectors_nothing (told files) job.vec c) same unread)

    module _ (given : F) (vectors : IsLater told faults made given) (rows : Rows) (are : (vectors_stage (told made) job.vec c).means rows) where
      abbrev Last : List ℕ → Stage (List ℕ)
      Last events = giving (IsReplayText job.transparent p rows.rows events)

      -- what is kept of the log of the files behind the vectors is kept of it at first
      kept_here : (now : F) → IsWider (kept_stage (told given) job.log p rows.rows) (kept_stage (told files) job.log p rows.rows) (RoseIn (faults given) (faults now)) (RoseIn (faults files) (faults now))
      kept_here now =
          let later : IsLater told faults files given = later_still told faults files made given (later_still told faults files read made netlist plan) vectors in
          log_since (told files) (told given) job.log p rows.rows (faults files) (faults given) (faults now) later.same_held later.never_falls

      pub stops_log : (now : F) (out : Output) (stop : Stop) → out.new ≡ out.old
          → Stops (kept_stage (told given) job.log p rows.rows) (RoseIn (faults given) (faults now)) stop
          → Ends {A = Unit {0}} whole (RoseIn (faults files) (faults now)) out (Err stop)
      stops_log now out stop same is =
          let unread : Stops (kept_stage (told files) job.log p rows.rows) (RoseIn (faults files) (faults now)) stop =
          widened {A = Snapshot × ℕ} (kept_stage (told given) job.log p rows.rows) (kept_stage (told files) job.log p rows.rows)
          (RoseIn (faults given) (faults now)) (RoseIn (faults files) (faults now)) (kept_here now) (Err stop) is in
          behind_plan now out (Err stop)
          (ends_after {A = Unit {0}} (vectors_stage (told files) job.vec c) behind (RoseIn (faults files) (faults now)) out rows ((vectors_here given).means rows are) (Err stop)
          (ended_first (Unit {0}) (log_stage (told files) job.log p rows.rows) Last (RoseIn (faults files) (faults now)) out stop (log_nothing (told files) job.log p rows.rows) same
          (log_stops (told files) job.log p rows.rows (RoseIn (faults files) (faults now)) stop unread)))

      pub ends_log : (kept : Snapshot) (fired : ℕ) → (kept_stage (told given) job.log p rows.rows).means (kept, fired)
          → (now : F) (out : Output) (result : Result (Unit {0}) Stop)
          → Ends {A = Unit {0}} (giving (IsKeptText job.transparent kept fired)) Never out result
          → Ends {A = Unit {0}} whole (RoseIn (faults files) (faults now)) out result
      ends_log kept fired is now out result ends =
          let (events, means, after) = (kept_here now).means (kept, fired) is in
          behind_plan now out result
          (ends_after (vectors_stage (told files) job.vec c) behind (RoseIn (faults files) (faults now)) out rows ((vectors_here given).means rows are) result
          (ends_after (log_stage (told files) job.log p rows.rows) Last (RoseIn (faults files) (faults now)) out events means result
          (gives_more {A = Unit {0}} (IsKeptText job.transparent kept fired) (IsReplayText job.transparent p rows.rows events) (RoseIn (faults files) (faults now)) out
          (λ text of. of.is p rows.rows events after) result ends)))
