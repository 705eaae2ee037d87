-- The nets, tables and registers of a flat design are those of its copies, each once, in order.
use Rattle.std.specs.Prelude.{◌≡◌, ◌≢◌, ℕ, ◌+◌, List, [], ◌∷◌, ◌++◌, map, AllPairs, None}
use Rattle.std.specs.Prelude.{Some, Ok}
use Rattle.std.specs.List.{flat_map}
use Rattle.std.specs.Option.{option_map, option_map_or}
use Rattle.ds_design.specs.Circuit.{Circuit}
use Rattle.ds_design.specs.declared.design.Net.{Net}
use Rattle.ds_design.specs.declared.design.Gate.{Gate}
use Rattle.ds_design.specs.declared.design.Register.{Register}
use Rattle.ds_design.specs.declared.blif.Part.{Part}
use Rattle.ds_design.specs.declared.blif.Part.TheVariants.{Inputs, Outputs, Clock, Table, Latch}
use Rattle.ds_design.specs.declared.blif.Part.TheVariants.{Subckt}
use Rattle.ds_design.specs.declared.blif.UseText.{UseText}
use Rattle.ds_design.specs.declared.blif.Command.{Command}
use Rattle.ds_design.specs.declared.blif.BlifModel.{BlifModel}
use Rattle.ds_flat.specs.Net.{Scope, net_of_name, number_of_net, numbered_nets}
use Rattle.ds_flat.specs.Copies.{actuals_in, bindings_in, flat_of, model_named, use_in}

-- a command in a copy
pub record InCopy : Type 0 where
  pub scope : Scope
  pub command : Command

-- what commands of a copy come to: each of them, and behind a use the commands of its copy, which
-- is one of the model that it names, has the next number, and has the caller's nets for the formals
-- that are connected; the numbers of the last copies before and behind
pub data ComeTo (models : List BlifModel) : Scope → List Command → ℕ → List InCopy → ℕ → Type 0
  where
    done : {scope : Scope} {copies : ℕ} → ComeTo models scope [] copies [] copies
    plain : {scope : Scope} {command : Command} {commands : List Command} {copies last : ℕ}
        {placed : List InCopy} → use_in command.part ≡ None
        → ComeTo models scope commands copies placed last
        → ComeTo models scope (command ∷ commands) copies
        (record { scope = scope; command = command } ∷ placed) last
    copied : {scope : Scope} {command : Command} {commands : List Command} {copies next last : ℕ}
        {inner placed : List InCopy} (call : UseText) (model : BlifModel)
        → use_in command.part ≡ Some call → model_named models call.model ≡ Some model
        → ComeTo models (record { copy = copies + 1; bound = bindings_in scope call.pairs })
        model.commands (copies + 1) inner next
        → ComeTo models scope commands next placed last
        → ComeTo models scope (command ∷ commands) copies
        (record { scope = scope; command = command } ∷ (inner ++ placed)) last

-- the names that a command has for nets of its copy, in the order in which they are numbered
abbrev pub names_by : Part → List (List ℕ)
names_by (Inputs names) = names
names_by (Outputs names) = names
names_by (Clock names) = names
names_by (Table text) = text.inputs ++ text.output ∷ []
names_by (Latch text) =
    text.data_net ∷ text.output ∷ option_map_or (λ name. name ∷ []) text.control []
names_by (Subckt call) = actuals_in call.pairs

-- its nets
abbrev pub nets_by : InCopy → List Net
nets_by placed = map (net_of_name placed.scope) (names_by placed.command.part)

-- the number of a name in a copy, among these nets
abbrev pub number_by : List Net → Scope → List ℕ → ℕ
number_by nets scope name = number_of_net nets (net_of_name scope name)

-- the table that a command in a copy is, if it is one
abbrev pub gate_by : List Net → Scope → ℕ → Part → List Gate
gate_by nets scope line (Table text) = record {
  table = record {
    inputs = map (number_by nets scope) text.inputs;
    rows = text.rows;
    on = text.on;
  };
  output = number_by nets scope text.output;
  line = line;
} ∷ []
gate_by nets scope line part = []

-- the register that a command in a copy is, if it is one
abbrev pub register_by : List Net → Scope → ℕ → Part → List Register
register_by nets scope line (Latch text) = record {
  data_net = number_by nets scope text.data_net;
  output = number_by nets scope text.output;
  edge = text.edge;
  control = option_map (number_by nets scope) text.control;
  initial = text.initial;
  line = line;
} ∷ []
register_by nets scope line part = []

-- the commands of all copies, in order; the nets that they name, each where it is named first and
-- not again; for each table and each register of them one, its nets by their places
pub record IsOfCopies (main : BlifModel) (models : List BlifModel) (c : Circuit) : Type 0 where
  pub placed : List InCopy
  pub last : ℕ
  pub copies : ComeTo models (record { copy = 0; bound = [] }) main.commands 0 placed last
  pub nets : c.nets ≡ (numbered_nets [] (flat_map nets_by placed)).nets
  pub once : AllPairs (λ a b. a ≢ b) c.nets
  pub tables : c.tables ≡ flat_map
      (λ p. gate_by c.nets p.scope p.command.line p.command.part) placed
  pub registers : c.registers ≡ flat_map
      (λ p. register_by c.nets p.scope p.command.line p.command.part) placed

-- so it is for the flat design of all models, the first of which is the main one
abbrev pub FlatDesignsAreOfCopies : Type 0
FlatDesignsAreOfCopies = (main : BlifModel) (models : List BlifModel) (c : Circuit)
    → flat_of (main ∷ models) ≡ Ok c → IsOfCopies main (main ∷ models) c
