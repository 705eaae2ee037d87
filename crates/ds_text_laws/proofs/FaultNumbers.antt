-- The lines of a text are numbered from 1, and so are those of its models' commands.
use Rattle.std.proofs.Common.{◌≡◌, ℕ, ◌+◌, ◌≤◌, List, [], ◌∷◌, ◌++◌, Option, None, Some, Ok, subst, inl, inr, arith}
use Rattle.std.specs.Prelude.{All}
use Rattle.std.specs.List.{slice_split}
use Rattle.std.proofs.lemmas.Bool.{cases_Bool}
use Rattle.std.proofs.lemmas.List.Elements.{All-append, All-cons, All-contains, All-head, All-nil, All-tail}
use Rattle.ds_lines.specs.First.{unless_fault}
use Rattle.ds_lines.specs.Line.{Line, is_newline, joins, line_of, lines_from, lines_of, words_in}
use Rattle.ds_lines.specs.Words.{word_at}
use Rattle.ds_lines.specs.declared.at.At.{At}
use Rattle.ds_design.specs.declared.blif.BlifModel.{BlifModel}
use Rattle.ds_design.specs.declared.blif.Command.{Command}
use Rattle.ds_design.specs.declared.blif.Part.{Part}
use Rattle.ds_blif.specs.Head.{head_of}
use Rattle.ds_blif.specs.Parts.{Parts, models_of, parts_of, with_command, with_head}
use Rattle.ds_blif.specs.State.{first_fault}
use Rattle.ds_blif.specs.declared.fault.BlifKind.{BlifKind}
use Rattle.ds_blif.specs.declared.head.Head.{Head}
use Rattle.ds_blif.specs.declared.head.Head.TheVariants.{Clock, End, Inputs, Latch, Model, Names, Outputs, Row, Skipped, Subckt, Unknown}
use Rattle.ds_text_laws.proofs.FaultLines.{faults_are_on_lines_lem}
use Rattle.ds_text_laws.specs.FlatLaws.{FaultsHaveLines, HasCommandOn}

-- a line has a number of at least 1
abbrev HasNumber : Line → Type 0
HasNumber line = 1 ≤ line.number

line_numbered : (number : ℕ) (words : List (List ℕ)) → 1 ≤ number → All HasNumber (line_of number words)
line_numbered number [] least = All-nil HasNumber
line_numbered number (word ∷ words) least = All-cons HasNumber (record { number = number; words = word ∷ words }) [] least (All-nil HasNumber)

lines_numbered : (first : ℕ) (words : List (List ℕ)) (number : ℕ) (rest : List (List ℕ)) → 1 ≤ first → All HasNumber (lines_from first words number rest)
lines_numbered first words number [] least = line_numbered first words least
lines_numbered first words number (line ∷ rest) least = elim (cases_Bool (joins line)) [
  | inl more ↦ rw more (lines_numbered first (words ++ words_in line) (number + 1) rest least)
  | inr alone ↦ rw alone (All-append HasNumber (line_of first (words ++ words_in line)) (lines_from (number + 1) [] (number + 1) rest)
      (line_numbered first (words ++ words_in line) least)
      (lines_numbered (number + 1) [] (number + 1) rest (omega arith)))
]

-- a command stands on a line of at least 1
abbrev IsNumbered : Command → Type 0
IsNumbered command = 1 ≤ command.line

-- each command of these models does
abbrev AreNumbered : List BlifModel → Type 0
AreNumbered models = All (λ model. All IsNumbered model.commands) models

-- each command of these parts does
record HaveNumbers (parts : Parts) : Type 0 where
  commands : All IsNumbered parts.commands
  models : AreNumbered parts.models

command_numbered : (number : ℕ) (part : Part) (parts : Parts) → 1 ≤ number → HaveNumbers parts → HaveNumbers (with_command number part parts)
command_numbered number part parts least have = record {
  commands = All-cons IsNumbered (record { line = number; part = part }) parts.commands least have.commands;
  models = have.models;
}

head_numbered : (head : Head) (number : ℕ) (words : List (List ℕ)) (parts : Parts) → 1 ≤ number → HaveNumbers parts → HaveNumbers (with_head head number words parts)
head_numbered Row number words parts least have = record { commands = have.commands; models = have.models }
head_numbered Names number words parts least have = command_numbered number _ parts least have
head_numbered Model number words parts least have = record {
  commands = All-nil IsNumbered;
  models = All-cons (λ (m : BlifModel). All IsNumbered m.commands) (record { name = word_at words 1; line = number; commands = parts.commands }) parts.models have.commands have.models;
}
head_numbered Inputs number words parts least have = command_numbered number _ parts least have
head_numbered Outputs number words parts least have = command_numbered number _ parts least have
head_numbered Clock number words parts least have = command_numbered number _ parts least have
head_numbered Latch number words parts least have = command_numbered number _ parts least have
head_numbered Subckt number words parts least have = command_numbered number _ parts least have
head_numbered End number words parts least have = record { commands = have.commands; models = have.models }
head_numbered Skipped number words parts least have = have
head_numbered Unknown number words parts least have = record { commands = have.commands; models = have.models }

parts_numbered : (lines : List Line) → All HasNumber lines → HaveNumbers (parts_of lines)
parts_numbered [] are = record { commands = All-nil IsNumbered; models = All-nil (λ (m : BlifModel). All IsNumbered m.commands) }
parts_numbered (line ∷ lines) are = head_numbered (head_of (word_at line.words 0)) line.number line.words (parts_of lines)
    (All-head HasNumber line lines are) (parts_numbered lines (All-tail HasNumber line lines are))

read_numbered : (fault : Option (At BlifKind)) (read models : List BlifModel) → AreNumbered read → unless_fault fault read ≡ Ok models → AreNumbered models
read_numbered None read models are is = (let same : read ≡ models = cc in subst AreNumbered same are)
read_numbered (Some fault) read models are is = absurd (cc)

-- a line of such a command is at least 1
line_least : (models : List BlifModel) (line : ℕ) → AreNumbered models → HasCommandOn models line → 1 ≤ line
line_least models line are on =
    let (k, model, inside, is, on_model) = on in
    let (j, command, within, same, on_line) = on_model in
    let all : All IsNumbered model.commands = All-contains (λ (m : BlifModel). All IsNumbered m.commands) models model are (k, inside, is) in
    subst (λ n. 1 ≤ n) on_line (All-contains IsNumbered model.commands command all (j, within, same))

pub faults_have_lines_lem : FaultsHaveLines
faults_have_lines_lem text models fault read is =
    let lines : List Line = lines_of text in
    let numbered : All HasNumber lines = lines_numbered 1 [] 1 (slice_split is_newline text) (omega arith) in
    let are : AreNumbered models = read_numbered (first_fault [] lines) (models_of lines) models (parts_numbered lines numbered).models read in
    line_least models fault.line are (faults_are_on_lines_lem models fault is)
