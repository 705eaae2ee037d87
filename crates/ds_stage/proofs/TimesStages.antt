-- The stages of `times`: delays that are read are not refused, whatever failed before.
use Rattle.std.proofs.Common.{◌≡◌, ◌≢◌, ◌≤◌, ℕ, List, Result, Err, inl, inr, refl, subst}
use Rattle.ds_outside.specs.Held.{Held, untold}
use Rattle.ds_outside.specs.declared.files.Which.{Which}
use Rattle.ds_outside.specs.declared.files.Which.TheVariants.{Delays}
use Rattle.ds_lines.specs.Line.{Line}
use Rattle.ds_marked.specs.Graph.{Graph}
use Rattle.ds_stage.specs.declared.stop.Stop.{Stop}
use Rattle.ds_stage.specs.Ends.{Ends, Never, Output, RoseIn, Stops}
use Rattle.ds_stage.specs.PeriodStage.{delays_stage, given_stage}
use Rattle.ds_stage.specs.Stage.{OfFile, Stage, giving}
use Rattle.ds_stage.specs.Stages.{lines_stage}
use Rattle.ds_stage.specs.TimesStage.{IsTimesText, scheduled_stage}
use Rattle.ds_stage.proofs.StageEnds.{ended, ends_after, ends_more, lines_since}
use Rattle.ds_stage.proofs.ExclusiveStages.{then_not_refused}
use Rattle.ds_stage.proofs.StageReadFailures.{Says, lines_say, then_says}
use Rattle.ds_stage.proofs.StagesLeaveNothing.{LeavesNothing, giving_nothing, lines_nothing, no_text, then_nothing}
use Rattle.ds_stage.proofs.PeriodStages.{delays_exclusive}
use Rattle.ds_stage.proofs.Stages.{IsWider, stopped, wider_both}

-- the text of the times of a graph with these delays
abbrev pub last_times_stage : Graph → ℕ → List ℕ → Stage (List ℕ)
last_times_stage g turns delays = giving (IsTimesText g delays turns)

module _ (held : List ℕ → Held) (file : List ℕ) (turns : ℕ) (g : Graph) where
  pub scheduled_nothing : LeavesNothing (scheduled_stage held file turns g)
  scheduled_nothing =
      then_nothing (delays_stage held file g) (last_times_stage g turns)
      (then_nothing (lines_stage held Delays file) (given_stage file g) (lines_nothing held Delays file)
      (λ (lines : List Line). record { may = no_text (given_stage file g lines); only = λ failed stop text is. is }))
      (λ (delays : List ℕ). giving_nothing (IsTimesText g delays turns))

  -- the file is named only where a read failed
  pub scheduled_says : (failed : OfFile) → Says (scheduled_stage held file turns g) failed
  scheduled_says failed =
      then_says (delays_stage held file g) (last_times_stage g turns) failed
      (then_says (lines_stage held Delays file) (given_stage file g) failed (lines_say held Delays file failed) (λ lines line none. absurd none))
      (λ delays line none. absurd none)

  -- delays that have times are not refused
  pub scheduled_not_refused : held file ≢ untold → (text line : List ℕ) → (scheduled_stage held file turns g).means text → ¬ (scheduled_stage held file turns g).refused line
  scheduled_not_refused told text line means refused =
      then_not_refused (delays_stage held file g) (last_times_stage g turns) (delays_exclusive held file told g) (λ delays b l is none. none) text line means refused

  -- delays that are not read end it
  pub stops_schedule : (more : OfFile) (out : Output) (stop : Stop) → out.new ≡ out.old → Stops (delays_stage held file g) more stop
      → Ends {A = Unit {0}} (scheduled_stage held file turns g) more out (Err stop)
  stops_schedule more out stop same is =
      ended (Unit {0}) (scheduled_stage held file turns g) more out stop scheduled_nothing same
      (stopped (delays_stage held file g) (last_times_stage g turns) more stop is)

  -- behind the delays it ends as its text does
  pub ends_schedule : (more : OfFile) (numbers : List ℕ) → (delays_stage held file g).means numbers
      → (out : Output) (result : Result (Unit {0}) Stop) → Ends (last_times_stage g turns numbers) Never out result
      → Ends (scheduled_stage held file turns g) more out result
  ends_schedule more numbers are out result is =
      ends_after (delays_stage held file g) (last_times_stage g turns) more out numbers are result
      (ends_more (last_times_stage g turns numbers) Never more out (giving_nothing (IsTimesText g numbers turns)) (λ line none. absurd none) result is)

-- delays that were read later, of files that hold the same
delays_since : (held later : List ℕ → Held) (before mid now : Which → List ℕ → ℕ) → later ≡ held → ((w : Which) (n : List ℕ) → before w n ≤ mid w n)
    → (file : List ℕ) (g : Graph) → IsWider (delays_stage later file g) (delays_stage held file g) (RoseIn mid now) (RoseIn before now)
delays_since held later before mid now same less file g =
    wider_both (lines_stage later Delays file) (lines_stage held Delays file) (given_stage file g) (given_stage file g) (RoseIn mid now) (RoseIn before now)
    (lines_since held later before mid now same less Delays file)
    (λ (lines : List Line). record { means = λ a is. is; refused = λ line is. is; unread = λ line none. absurd none })

-- times that were worked out later
pub scheduled_since : {A : Type 0} (before mid now : Which → List ℕ → ℕ) (held later : List ℕ → Held) (file : List ℕ) (turns : ℕ) (g : Graph)
    → later ≡ held → ((w : Which) (n : List ℕ) → before w n ≤ mid w n) → (out : Output) (result : Result A Stop)
    → Ends (scheduled_stage later file turns g) (RoseIn mid now) out result
    → Ends (scheduled_stage held file turns g) (RoseIn before now) out result
scheduled_since {A} before mid now held later file turns g same less out result is =
    subst (λ (h : List ℕ → Held). Ends (scheduled_stage h file turns g) (RoseIn before now) out result) same
    (ends_more (scheduled_stage later file turns g) (RoseIn mid now) (RoseIn before now) out (scheduled_nothing later file turns g) unread result is)
  where
    unread : (line : List ℕ) → (scheduled_stage later file turns g).unread (RoseIn mid now) line → (scheduled_stage later file turns g).unread (RoseIn before now) line
    unread line (inl failed) = inl ((delays_since later later before mid now refl less file g).unread line failed)
    unread line (inr (delays, are, none)) = absurd none
