-- The copies of a text's models: each use of a model takes the model's commands in its place, as
-- the next copy.
use Rattle.std.specs.Prelude.{ℕ, ◌+◌, zero, suc, List, [], ◌∷◌, ◌++◌, length}
use Rattle.std.specs.Prelude.{Option, None, Some, Result, Ok, Err, if◌then◌else◌, nat_lt}
use Rattle.std.specs.List.{list_any, flat_map}
use Rattle.std.specs.Str.{bytes_eq}
use Rattle.ds_base.specs.declared.number.Limit.{Limit}
use Rattle.ds_base.specs.declared.number.Limit.TheVariants.{Copies, Nets, Tables, Registers}
use Rattle.ds_base.specs.Limit.{most_of}
use Rattle.ds_design.specs.declared.blif.Part.{Part}
use Rattle.ds_design.specs.declared.blif.Part.TheVariants.{Inputs, Outputs, Clock}
use Rattle.ds_design.specs.declared.blif.Part.TheVariants.{Subckt}
use Rattle.ds_design.specs.declared.blif.Pair.{Pair}
use Rattle.ds_design.specs.declared.blif.UseText.{UseText}
use Rattle.ds_design.specs.declared.blif.Command.{Command}
use Rattle.ds_design.specs.declared.blif.BlifModel.{BlifModel}
use Rattle.ds_design.specs.Circuit.{Circuit}
use Rattle.ds_flat.specs.declared.fault.FlatKind.{FlatKind}
use Rattle.ds_flat.specs.declared.fault.FlatKind.TheVariants.{UnknownModel, Recursive}
use Rattle.ds_flat.specs.declared.fault.FlatKind.TheVariants.{UnknownFormal, TooMany}
use Rattle.ds_lines.specs.declared.at.At.{At}
use Rattle.ds_flat.specs.Net.{Binding, Scope, net_of_name, numbered_names}
use Rattle.ds_flat.specs.Command.{with_part}

-- what was taken so far: the number of the last copy, and the design
pub record Flat : Type 0 where
  pub copies : ℕ
  pub design : Circuit

-- a copy that is being taken: the models that are being copied, the nearest first, and the commands
-- that are left
pub record Frame : Type 0 where
  pub path : List (List ℕ)
  pub scope : Scope
  pub commands : List Command

-- a copy that a use opens, and what was taken before it
pub record Opened : Type 0 where
  pub frame : Frame
  pub flat : Flat

infixl 10 ◌>>=◌
-- what comes next, unless there was a fault
abbrev pub ◌>>=◌ : {A B : Type 0} → Result A (At FlatKind) → (A → Result B (At FlatKind))
    → Result B (At FlatKind)
(Ok value) >>= next = next value
(Err fault) >>= next = Err fault

-- a fault of a line
abbrev pub fault_at : {A : Type 0} → ℕ → FlatKind → Result A (At FlatKind)
fault_at line kind = Err (record { line = line; kind = kind })

-- the first limit that a design passes, if there is one
abbrev pub passed_limit : Circuit → Option Limit
passed_limit c =
    if nat_lt (most_of Nets) (length c.nets) then Some Nets
    else (if nat_lt (most_of Tables) (length c.tables) then Some Tables
    else (if nat_lt (most_of Registers) (length c.registers) then Some Registers else None))

-- a value, unless a limit is passed
abbrev pub unless_passed : {A : Type 0} → Option Limit → ℕ → A → Result A (At FlatKind)
unless_passed None line value = Ok value
unless_passed (Some limit) line value = fault_at line (TooMany limit)

-- the model of a name, if there is one
abbrev pub model_named : List BlifModel → List ℕ → Option BlifModel
model_named [] name = None
model_named (model ∷ models) name = if bytes_eq name model.name then Some model
    else model_named models name

-- the part of a path from this model on, the outermost first; the path has the nearest first
abbrev pub path_from : List ℕ → List (List ℕ) → List (List ℕ)
path_from name [] = []
path_from name (model ∷ path) = if bytes_eq name model then model ∷ []
    else path_from name path ++ model ∷ []

-- the names of a command that are part of its model's interface
abbrev pub ports_in : Part → List (List ℕ)
ports_in (Inputs names) = names
ports_in (Outputs names) = names
ports_in (Clock names) = names
ports_in part = []

-- the names of a model's interface, as they are written
abbrev pub ports_of : List Command → List (List ℕ)
ports_of commands = flat_map (λ command. ports_in command.part) commands

-- the first formal that is not in an interface
abbrev pub unknown_formal : List (List ℕ) → List Pair → Option (List ℕ)
unknown_formal ports [] = None
unknown_formal ports (pair ∷ pairs) =
    if list_any (bytes_eq pair.formal) ports then unknown_formal ports pairs else Some pair.formal

-- the names that formals are connected to; an empty one leaves its formal unconnected
abbrev pub actuals_in : List Pair → List (List ℕ)
actuals_in [] = []
actuals_in (pair ∷ pairs) = if nat_lt 0 (length pair.actual) then pair.actual ∷ actuals_in pairs
    else actuals_in pairs

-- the connected formals, each with the caller's net
abbrev pub bindings_in : Scope → List Pair → List Binding
bindings_in scope [] = []
bindings_in scope (pair ∷ pairs) =
    if nat_lt 0 (length pair.actual)
    then record { formal = pair.formal; net = net_of_name scope pair.actual }
    ∷ bindings_in scope pairs
    else bindings_in scope pairs

-- the next copy, of a model: its frame, and the design with the nets of the use
abbrev pub next_copy : List (List ℕ) → Scope → UseText → BlifModel → Flat → Opened
next_copy path scope call model flat = record {
  frame = record {
    path = model.name ∷ path;
    scope = record { copy = flat.copies + 1; bound = bindings_in scope call.pairs };
    commands = model.commands;
  };
  flat = record {
    copies = flat.copies + 1;
    design = record flat.design {
      nets = (numbered_names scope flat.design.nets (actuals_in call.pairs)).nets;
    };
  };
}

-- a copy, unless the use passes a limit
abbrev pub opened_within : ℕ → Opened → Result Opened (At FlatKind)
opened_within line opened = unless_passed (passed_limit opened.flat.design) line opened

-- the next copy, unless some formal of the use is unknown
abbrev pub copy_unless : Option (List ℕ) → ℕ → Opened → Result Opened (At FlatKind)
copy_unless None line opened = opened_within line opened
copy_unless (Some formal) line opened = fault_at line (UnknownFormal formal)

-- what a use opens, where its model is this: a model is no part of itself, and copies are limited
abbrev pub open_model : List (List ℕ) → Scope → ℕ → UseText → Flat → Option BlifModel
    → Result Opened (At FlatKind)
open_model path scope line call flat None = fault_at line (UnknownModel call.model)
open_model path scope line call flat (Some model) =
    if list_any (bytes_eq call.model) path
    then fault_at line (Recursive (path_from call.model path))
    else (if nat_lt flat.copies (most_of Copies)
    then copy_unless (unknown_formal (ports_of model.commands) call.pairs) line
    (next_copy path scope call model flat)
    else fault_at line (TooMany Copies))

-- what a use opens
abbrev pub open_use : List BlifModel → List (List ℕ) → Scope → ℕ → UseText → Flat
    → Result Opened (At FlatKind)
open_use models path scope line call flat = open_model path scope line call flat
    (model_named models call.model)

-- the use that a command is, if it is one
abbrev pub use_in : Part → Option UseText
use_in (Subckt call) = Some call
use_in part = None

-- what was taken, with another design, unless that passes a limit
abbrev pub flat_within : ℕ → ℕ → Circuit → Result Flat (At FlatKind)
flat_within copies line c = unless_passed (passed_limit c) line (record {
  copies = copies;
  design = c;
})

-- a command other than a use is taken
abbrev pub take_part : Scope → ℕ → Part → Flat → Result Flat (At FlatKind)
take_part scope line part flat = flat_within flat.copies line (with_part scope line part
    flat.design)

-- a command is taken, or the use that it is, where `callee` takes the copy that a use opens
abbrev pub take_command : (Opened → Result Flat (At FlatKind)) → List BlifModel → List (List ℕ)
    → Scope → Command → Option UseText → Flat → Result Flat (At FlatKind)
take_command callee models path scope command None flat =
    take_part scope command.line command.part flat
take_command callee models path scope command (Some call) flat =
    open_use models path scope command.line call flat >>= callee

-- commands are taken in order
abbrev pub take_all : (Opened → Result Flat (At FlatKind)) → List BlifModel → List (List ℕ) → Scope
    → List Command → Flat → Result Flat (At FlatKind)
take_all callee models path scope [] flat = Ok flat
take_all callee models path scope (command ∷ commands) flat =
    take_command callee models path scope command (use_in command.part) flat
    >>= take_all callee models path scope commands

-- the commands of a copy are taken, with less than so many copies in one another
abbrev pub expand : ℕ → List BlifModel → Opened → Result Flat (At FlatKind)
expand zero models opened = fault_at 0 (TooMany Copies)
expand (suc depth) models opened =
    take_all (expand depth models) models opened.frame.path opened.frame.scope
    opened.frame.commands opened.flat

-- a design without nets
abbrev pub empty_design : List ℕ → Circuit
empty_design name = record {
  name = name;
  nets = [];
  inputs = [];
  outputs = [];
  clocks = [];
  tables = [];
  registers = [];
}

-- the main model as copy 0
abbrev pub main_copy : BlifModel → Opened
main_copy main = record {
  frame = record {
    path = main.name ∷ [];
    scope = record { copy = 0; bound = [] };
    commands = main.commands;
  };
  flat = record { copies = 0; design = empty_design main.name };
}

-- how many copies there may be in one another, with the main model's
unfoldable pub most_depth : ℕ
most_depth = most_of Copies + 1

-- the flat design of models, the first of which is the main one. As each copy in another has a
-- greater number, there are never more in one another than there may be copies beside copy 0
abbrev pub flat_of : List BlifModel → Result Circuit (At FlatKind)
flat_of [] = Ok (empty_design [])
flat_of (main ∷ models) = expand most_depth (main ∷ models) (main_copy main)
    >>= λ (flat : Flat). Ok flat.design
