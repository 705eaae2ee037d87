-- The stages of `period`: what the text of the delays gives the file gives, and delays that are
-- read are not refused.
use Rattle.std.proofs.Common.{◌≡◌, ◌≢◌, ℕ, ◌≤◌, List, Result, inl, inr, subst}
use Rattle.ds_outside.specs.Held.{Held, FrontIsHeld, untold}
use Rattle.ds_outside.specs.declared.files.Which.{Which}
use Rattle.ds_outside.specs.declared.files.Which.TheVariants.{Delays}
use Rattle.ds_marked.specs.Graph.{Graph}
use Rattle.ds_period.specs.Read.{delays_of}
use Rattle.ds_stage.specs.declared.stop.Stop.{Stop}
use Rattle.ds_stage.specs.Ends.{Ends, Never, Output, RoseIn}
use Rattle.ds_stage.specs.PeriodStage.{IsPeriodText, delay_text, delays_stage, given_stage, timed_stage}
use Rattle.ds_stage.specs.Stage.{OfFile, Stage, IsExclusive, giving, then_stage}
use Rattle.ds_stage.specs.Stages.{lines_stage, read_or_line, text_stage}
use Rattle.ds_stage.proofs.StageEnds.{ends_more, rose_since}
use Rattle.ds_stage.proofs.ExclusiveStages.{lines_exclusive, result_exclusive, then_exclusive, then_not_refused}
use Rattle.ds_stage.proofs.StagesLeaveNothing.{timed_nothing}
use Rattle.ds_stage.proofs.StageReadFailures.{Says, lines_say, then_says}
use Rattle.ds_stage.proofs.Stages.{IsWider, read_means, read_refused, wider_first}

-- the text of the period of a graph with these delays
abbrev pub last_stage : Graph → List ℕ → Stage (List ℕ)
last_stage g delays = giving (IsPeriodText g delays)

module _ (held : List ℕ → Held) (file : List ℕ) where
  -- the delays of a text that was read are those of the file
  pub delays_wider : (text : List ℕ) (g : Graph) (more : OfFile)
      → FrontIsHeld (held file) 16777217 text
      → IsWider (then_stage (text_stage file text) (given_stage file g)) (delays_stage held file g)
      Never more
  delays_wider text g more front =
      wider_first (text_stage file text) (lines_stage held Delays file) (given_stage file g) Never more
      (record {
        means = read_means (held file) file text front;
        refused = read_refused (held file) file text front;
        unread = λ line none. absurd none;
      })
      (λ lines. record {
        means = λ a is. is;
        refused = λ line is. is;
        unread = λ line none. absurd none;
      })

  -- a file that was not read is named only where a read failed
  pub timed_says : (failed : OfFile) (g : Graph) → Says (timed_stage held file g) failed
  timed_says failed g =
      then_says (delays_stage held file g) (last_stage g) failed
      (then_says (lines_stage held Delays file) (given_stage file g) failed
      (lines_say held Delays file failed) (λ lines line none. absurd none))
      (λ delays line none. absurd none)

  module _ (told : held file ≢ untold) where
    -- a file gives one list of delays, and is then not refused
    pub delays_exclusive : (g : Graph) → IsExclusive (delays_stage held file g)
    delays_exclusive g =
        then_exclusive (lines_stage held Delays file) (given_stage file g)
        (lines_exclusive held Delays file told)
        (λ lines. result_exclusive (read_or_line file delay_text (delays_of g lines)))

    -- delays that have a period are not refused
    pub timed_not_refused : (g : Graph) (text line : List ℕ)
        → (timed_stage held file g).means text → ¬ (timed_stage held file g).refused line
    timed_not_refused g text line means refused =
        then_not_refused (delays_stage held file g) (last_stage g) (delays_exclusive g)
        (λ delays b l is none. none) text line means refused

module _ (before mid now : Which → List ℕ → ℕ) where
  -- a file that was not read since later was not since earlier
  unread_since : (held : List ℕ → Held) (file : List ℕ) (g : Graph) (line : List ℕ)
      → ((w : Which) (n : List ℕ) → before w n ≤ mid w n)
      → (timed_stage held file g).unread (RoseIn mid now) line
      → (timed_stage held file g).unread (RoseIn before now) line
  unread_since held file g line less (inl (inl (rose, spelt))) =
      let since = rose_since (before Delays file) (mid Delays file) (now Delays file)
      (less Delays file) rose in
      inl (inl (since, spelt))
  unread_since held file g line less (inl (inr (lines, are, none))) = absurd none
  unread_since held file g line less (inr (delays, are, none)) = absurd none

  -- a period that was worked out later, of files that hold the same
  pub timed_since : {A : Type 0} (held later : List ℕ → Held) (file : List ℕ) (g : Graph)
      → later ≡ held → ((w : Which) (n : List ℕ) → before w n ≤ mid w n)
      → (out : Output) (result : Result A Stop)
      → Ends (timed_stage later file g) (RoseIn mid now) out result
      → Ends (timed_stage held file g) (RoseIn before now) out result
  timed_since {A} held later file g same less out result is =
      subst (λ (h : List ℕ → Held). Ends (timed_stage h file g) (RoseIn before now) out result)
      same (ends_more (timed_stage later file g) (RoseIn mid now) (RoseIn before now) out
      (timed_nothing later file g)
      (λ line unread. unread_since later file g line less unread) result is)
