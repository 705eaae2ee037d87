-- The stages of `replay`: what the text of the log gives the file gives, and a log that has a state is not refused.
use Rattle.std.proofs.Common.{◌≡◌, ℕ, Bool, List, Result, Ok, Err, inl, inr}
use Rattle.ds_base.specs.Values.{Row}
use Rattle.ds_outside.specs.Held.{Held, FrontIsHeld}
use Rattle.ds_outside.specs.declared.files.Which.TheVariants.{Log}
use Rattle.ds_lines.specs.Line.{Line}
use Rattle.ds_latch.specs.Plan.{Planned}
use Rattle.ds_lines.specs.declared.at.At.{At}
use Rattle.ds_stage.specs.Stage.{OfFile, Stage, IsExclusive, giving, then_stage}
use Rattle.ds_stage.specs.Stages.{lines_stage, text_stage}
use Rattle.ds_replay.specs.ReplayText.{IsReplayText}
use Rattle.ds_stage.specs.ReplayStage.{fired_stage, kept_after, kept_stage, log_stage, replayed_stage}
use Rattle.ds_stage.specs.Ends.{Never}
use Rattle.ds_stage.proofs.ExclusiveStages.{then_not_refused}
use Rattle.ds_stage.proofs.Stages.{IsWider, read_means, read_refused, wider_first}
use Rattle.ds_replay.specs.declared.fault.ReplayKind.{ReplayKind}

-- the log of a text that was read is that of the file
pub log_wider : (held : List ℕ → Held) (log text : List ℕ) (planned : Planned) (vectors : List Row) (more : OfFile) → FrontIsHeld (held log) 16777217 text
    → IsWider (then_stage (text_stage log text) (fired_stage log planned vectors)) (log_stage held log planned vectors) Never more
log_wider held log text planned vectors more front =
    wider_first (text_stage log text) (lines_stage held Log log) (fired_stage log planned vectors) Never more
    (record { means = read_means (held log) log text front; refused = read_refused (held log) log text front; unread = λ line none. absurd none })
    (λ lines. record { means = λ a is. is; refused = λ line is. is; unread = λ line none. absurd none })

-- and so is what is kept of it
pub kept_wider : (held : List ℕ → Held) (log text : List ℕ) (planned : Planned) (vectors : List Row) (more : OfFile) → FrontIsHeld (held log) 16777217 text
    → IsWider (then_stage (then_stage (text_stage log text) (fired_stage log planned vectors)) (kept_after planned vectors)) (kept_stage held log planned vectors) Never more
kept_wider held log text planned vectors more front =
    wider_first (then_stage (text_stage log text) (fired_stage log planned vectors)) (log_stage held log planned vectors) (kept_after planned vectors) Never more
    (log_wider held log text planned vectors more front)
    (λ events. record { means = λ a is. is; refused = λ line is. is; unread = λ line none. absurd none })

-- a log that leads to a state has no fault
fired_not_refused : (file : List ℕ) (planned : Planned) (vectors : List Row) (lines : List Line) (events : List ℕ) (line : List ℕ)
    → (fired_stage file planned vectors lines).means events → ¬ (fired_stage file planned vectors lines).refused line
fired_not_refused file planned vectors lines events line is (fault, faulty, spelt) = ok_or_fault _ _ _ is faulty
  where
    ok_or_fault : (r : Result (List ℕ) (At ReplayKind)) (events : List ℕ) (fault : At ReplayKind) → r ≡ Ok events → r ≡ Err fault → ⊥
    ok_or_fault r events fault is also = cc

-- a first stage that is not refused where it gives something is enough, where the second only gives
first_not_refused : {A B : Type 0} (first : Stage A) (next : A → Stage B)
    → ((a : A) (line : List ℕ) → first.means a → ¬ first.refused line) → ((a : A) (line : List ℕ) → ¬ (next a).refused line)
    → (b : B) (line : List ℕ) → (then_stage first next).means b → ¬ (then_stage first next).refused line
first_not_refused first next one none b line (a, is, then) (inl refused) = one a line is refused
first_not_refused first next one none b line (a, is, then) (inr (x, also, refused)) = none x line refused

log_not_refused : (held : List ℕ → Held) (log : List ℕ) → IsExclusive (lines_stage held Log log) → (planned : Planned) (vectors : List Row) (events line : List ℕ)
    → (log_stage held log planned vectors).means events → ¬ (log_stage held log planned vectors).refused line
log_not_refused held log lines planned vectors events line means refused =
    then_not_refused (lines_stage held Log log) (fired_stage log planned vectors) lines (fired_not_refused log planned vectors) events line means refused

-- a log whose text is told is not refused where it has a text
pub replayed_not_refused : (held : List ℕ → Held) (log : List ℕ) (transparent : Bool) → IsExclusive (lines_stage held Log log) → (planned : Planned) (vectors : List Row) (text line : List ℕ)
    → (replayed_stage held log transparent planned vectors).means text → ¬ (replayed_stage held log transparent planned vectors).refused line
replayed_not_refused held log transparent lines planned vectors text line means refused =
    first_not_refused (log_stage held log planned vectors) (λ (events : List ℕ). giving (IsReplayText transparent planned vectors events))
    (log_not_refused held log lines planned vectors) (λ events l none. none) text line means refused
