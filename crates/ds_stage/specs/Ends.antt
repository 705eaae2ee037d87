-- How a stage of a job ends.
use Rattle.std.specs.Prelude.{◌≡◌, ◌⊎◌, ℕ, List, Option, Result, Ok, Err}
use Rattle.ds_outside.specs.Fault.{Rose}
use Rattle.ds_outside.specs.Written.{appended, AppendsPart}
use Rattle.ds_outside.specs.declared.files.Which.{Which}
use Rattle.ds_stage.specs.declared.stop.Stop.{Stop}
use Rattle.ds_stage.specs.declared.stop.Stop.TheVariants.{Refused, Unread, Unwritten, Memory}
use Rattle.ds_stage.specs.FaultText.{file_line, too_many_text, unread_line}
use Rattle.ds_split.specs.declared.fault.SplitFault.{SplitFault}
use Rattle.ds_split.specs.declared.fault.SplitFault.TheVariants.{TooMany}
use Rattle.ds_split.specs.declared.fault.SplitFault.TheVariants as split
use Rattle.ds_stage.specs.Stage.{OfFile, Stage}

-- the files whose count of faults rose
abbrev pub RoseIn : (Which → List ℕ → ℕ) → (Which → List ℕ → ℕ) → OfFile
RoseIn before now which name = Rose (before which name) (now which name)

-- a stop is what the stage says; want of memory is free
abbrev pub Stops : {A : Type 0} → Stage A → OfFile → Stop → Type 0
Stops stage failed (Refused line) = stage.refused line
Stops stage failed (Unread line) = stage.unread failed line
Stops stage failed Unwritten = ⊥
Stops stage failed Memory = Unit {0}

-- an answer is what the stage says
abbrev pub Answers : {A : Type 0} → Stage A → OfFile → Result A Stop → Type 0
Answers stage failed (Ok a) = stage.means a
Answers stage failed (Err stop) = Stops stage failed stop

-- a stop says that a file was not read, or that memory was wanted, or P holds
abbrev pub UnreadOr : Stop → Type 0 → Type 0
UnreadOr (Refused line) P = P
UnreadOr (Unread line) P = Unit {0}
UnreadOr Unwritten P = P
UnreadOr Memory P = Unit {0}

-- P, unless an answer says that a file was not read, or that memory was wanted
abbrev pub UnlessUnread : {A : Type 0} → Result A Stop → Type 0 → Type 0
UnlessUnread (Ok a) P = P
UnlessUnread (Err stop) P = UnreadOr stop P

-- a stop says that a write failed, or P holds
abbrev pub UnwrittenOr : Stop → Type 0 → Type 0
UnwrittenOr (Refused line) P = P
UnwrittenOr (Unread line) P = P
UnwrittenOr Unwritten P = Unit {0}
UnwrittenOr Memory P = P

-- P, unless an answer says that a write failed
abbrev pub UnlessUnwritten : {A : Type 0} → Result A Stop → Type 0 → Type 0
UnlessUnwritten (Ok a) P = P
UnlessUnwritten (Err stop) P = UnwrittenOr stop P

-- no file failed
abbrev pub Never : OfFile
Never which name = ⊥

-- the line of a file that was not read, or memory was wanted
abbrev pub SaysUnread : List ℕ → Stop → Type 0
SaysUnread name (Refused line) = ⊥
SaysUnread name (Unread line) = line ≡ unread_line name
SaysUnread name Unwritten = ⊥
SaysUnread name Memory = Unit {0}

-- a line that refuses, or memory was wanted
abbrev pub SaysRefused : List ℕ → Stop → Type 0
SaysRefused text (Refused line) = line ≡ text
SaysRefused text (Unread line) = ⊥
SaysRefused text Unwritten = ⊥
SaysRefused text Memory = Unit {0}

-- the line of a fault of clusters or latches, or memory was wanted
abbrev pub SaysSplit : List ℕ → SplitFault → Stop → Type 0
SaysSplit file (TooMany limit) stop = SaysRefused (file_line file (too_many_text limit)) stop
SaysSplit file split.Memory stop = stop ≡ Memory

-- an output before and after a call: its bytes and its count of faults
pub record Output : Type 0 where
  pub old : Option (List ℕ)
  pub new : Option (List ℕ)
  pub before : ℕ
  pub now : ℕ

-- the output that a sink is, from one of its values to another; `Sink::written` and `Sink::faults`
-- tell of each
abbrev pub output_between : {S : Type 0} → (S → Option (List ℕ)) → (S → ℕ) → S → S → Output
output_between written faults old new =
    record { old = written old; new = written new; before = faults old; now = faults new }

-- a text that the stage leaves where it stops so was appended
abbrev pub Leaves : {A : Type 0} → Stage A → OfFile → Output → Stop → Type 0
Leaves stage failed out stop = (text : List ℕ) × stage.leaves failed stop text
    × (out.new ≡ appended out.old text)

-- the text of the last stage was written, or a first part of it or of what the stages leave, and a
-- write failed; else what the stages leave stands where they stop
abbrev pub Ends : {A : Type 0} → Stage (List ℕ) → OfFile → Output → Result A Stop → Type 0
Ends stage failed out (Ok x) = (text : List ℕ) × stage.means text
    × (out.new ≡ appended out.old text)
Ends stage failed out (Err Unwritten) =
    (text : List ℕ) × (stage.means text ⊎ stage.leaves failed Unwritten text)
    × AppendsPart out.old out.new text × Rose out.before out.now
Ends stage failed out (Err (Refused line)) =
    stage.refused line × Leaves stage failed out (Refused line)
Ends stage failed out (Err (Unread line)) =
    stage.unread failed line × Leaves stage failed out (Unread line)
Ends stage failed out (Err Memory) = Leaves stage failed out Memory
