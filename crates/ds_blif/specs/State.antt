-- What the lines before a line leave open, and the first fault of a list of lines.
use Rattle.std.specs.Prelude.{ℕ, ◌-◌, Bool, true, false, not, List, [], ◌∷◌, ◌++◌, length}
use Rattle.std.specs.Prelude.{Option, None, Some, ◌&&◌}
use Rattle.ds_lines.specs.First.{where_true, first_of, fault_or}
use Rattle.ds_lines.specs.Words.{word_at}
use Rattle.ds_lines.specs.Line.{Line}
use Rattle.ds_blif.specs.Head.{head_of}
use Rattle.ds_blif.specs.Form.{output_of}
use Rattle.ds_blif.specs.Fault.{row_fault, latch_fault}
use Rattle.ds_blif.specs.Fault.{names_fault, subckt_fault, model_fault}
use Rattle.ds_blif.specs.declared.head.Head.{Head}
use Rattle.ds_blif.specs.declared.head.Head.TheVariants.{Row, Names, Model}
use Rattle.ds_blif.specs.declared.head.Head.TheVariants.{Latch, Subckt, End, Skipped, Unknown}
use Rattle.ds_lines.specs.declared.at.At.{At}
use Rattle.ds_blif.specs.declared.fault.BlifKind.{BlifKind}
use Rattle.ds_blif.specs.declared.fault.BlifKind.TheVariants.{Unsupported, NoModel}

-- is a model open; the inputs of the table whose rows stand here; the output of its first row; the
-- names of the models
pub record State : Type 0 where
  pub is_open : Bool
  pub table : Option ℕ
  pub first : Option (List ℕ)
  pub models : List (List ℕ)

-- before all lines
abbrev pub before_lines : State
before_lines = record { is_open = false; table = None; first = None; models = [] }

-- whether a model is open after a line
abbrev pub open_after : Head → Bool → Bool
open_after Model before = true
open_after End before = false
open_after head before = before

-- the inputs of the table whose rows may follow a line
abbrev pub table_after : Head → List (List ℕ) → Option ℕ → Option ℕ
table_after Row words table = table
table_after Skipped words table = table
table_after Names words table = Some (length words - 2)
table_after head words table = None

-- the output of the first row of that table
abbrev pub first_after : Head → List (List ℕ) → Option (List ℕ) → Option (List ℕ)
first_after Row words None = Some (output_of words)
first_after Row words (Some output) = Some output
first_after Skipped words first = first
first_after head words first = None

-- the names of the models up to a line
abbrev pub models_after : Head → List (List ℕ) → List (List ℕ) → List (List ℕ)
models_after Model words models = models ++ word_at words 1 ∷ []
models_after head words models = models

-- what a line leaves open
abbrev pub after_head : Head → List (List ℕ) → State → State
after_head head words state = record {
  is_open = open_after head state.is_open;
  table = table_after head words state.table;
  first = first_after head words state.first;
  models = models_after head words state.models;
}

-- what a line leaves open, by its first word
abbrev pub after : List (List ℕ) → State → State
after words state = after_head (head_of (word_at words 0)) words state

-- lines that are no models of their own want an open one
abbrev pub wants_model : Head → Bool
wants_model Model = false
wants_model End = false
wants_model Skipped = false
wants_model Unknown = false
wants_model head = true

-- the fault that a line of a kind has for its own sake
abbrev pub own_fault : Head → State → List (List ℕ) → Option BlifKind
own_fault Row state words = row_fault state.table state.first words
own_fault Names state words = names_fault words
own_fault Model state words = model_fault state.models words
own_fault Latch state words = latch_fault words
own_fault Subckt state words = subckt_fault words
own_fault head state words = None

-- a command that is neither read nor skipped
abbrev pub is_unknown : Head → Bool
is_unknown Unknown = true
is_unknown head = false

-- the fault of a line, after lines that leave this open: the first that holds
abbrev pub fault_by : Head → State → List (List ℕ) → Option BlifKind
fault_by head state words = first_of (
    where_true (is_unknown head) (Unsupported (word_at words 0))
    ∷ where_true (wants_model head && not state.is_open) NoModel
    ∷ own_fault head state words
    ∷ [])

-- the fault of a line, by its first word
abbrev pub fault_in : State → List (List ℕ) → Option BlifKind
fault_in state words = fault_by (head_of (word_at words 0)) state words

-- what lines leave open, the nearest line first
abbrev pub state_of : List Line → State
state_of [] = before_lines
state_of (line ∷ earlier) = after line.words (state_of earlier)

-- the fault of a line after these lines, the nearest first
abbrev pub fault_of_line : List Line → Line → Option BlifKind
fault_of_line earlier line = fault_in (state_of earlier) line.words

-- the fault at the end of a text: it has no model
abbrev pub end_fault : List (List ℕ) → Option (At BlifKind)
end_fault [] = Some (record { line = 1; kind = NoModel })
end_fault (model ∷ models) = None

-- the first fault of lines after these, the nearest first
abbrev pub first_fault : List Line → List Line → Option (At BlifKind)
first_fault earlier [] = end_fault (state_of earlier).models
first_fault earlier (line ∷ lines) = fault_or (fault_of_line earlier line) line.number
    (first_fault (line
    ∷ earlier) lines)
