-- What a command other than a use adds to a flat design.
use Rattle.std.specs.Prelude.{ℕ, List, [], ◌∷◌, ◌++◌, ◌==◌, if◌then◌else◌}
use Rattle.std.specs.Prelude.{Option, None, Some}
use Rattle.std.specs.List.{list_any}
use Rattle.std.specs.Option.{option_map}
use Rattle.ds_design.specs.declared.design.Net.{Net}
use Rattle.ds_design.specs.declared.blif.TableText.{TableText}
use Rattle.ds_design.specs.declared.blif.LatchText.{LatchText}
use Rattle.ds_design.specs.declared.blif.Part.{Part}
use Rattle.ds_design.specs.declared.blif.Part.TheVariants.{Inputs, Outputs, Clock, Table, Latch}
use Rattle.ds_design.specs.declared.blif.Part.TheVariants.{Subckt}
use Rattle.ds_design.specs.Circuit.{Circuit}
use Rattle.ds_flat.specs.Net.{Scope, Numbered, net_of_name, number_of_net, with_net, numbered_names}

-- with a number at the end where it is not there yet
abbrev pub with_known_number : List ℕ → ℕ → List ℕ
with_known_number numbers number = if list_any (λ other. number == other) numbers then numbers
    else numbers ++ number ∷ []

-- with more numbers, each where it is not there yet
abbrev pub with_numbers : List ℕ → List ℕ → List ℕ
with_numbers numbers [] = numbers
with_numbers numbers (number ∷ more) = with_numbers (with_known_number numbers number) more

-- the interface of the design is that of copy 0, the main model
abbrev pub with_ports : ℕ → List ℕ → List ℕ → List ℕ
with_ports copy ports numbers = if copy == 0 then with_numbers ports numbers else ports

-- with the names of `.inputs`, numbered
abbrev pub with_inputs : ℕ → Numbered → Circuit → Circuit
with_inputs copy names c = record c {
  nets = names.nets;
  inputs = with_ports copy c.inputs names.numbers;
}

-- with the names of `.outputs`, numbered
abbrev pub with_outputs : ℕ → Numbered → Circuit → Circuit
with_outputs copy names c = record c {
  nets = names.nets;
  outputs = with_ports copy c.outputs names.numbers;
}

-- with the names of `.clock`, numbered
abbrev pub with_clocks : ℕ → Numbered → Circuit → Circuit
with_clocks copy names c = record c {
  nets = names.nets;
  clocks = with_ports copy c.clocks names.numbers;
}

-- with a table, whose inputs are numbered, and then its output
abbrev pub with_table : Net → ℕ → TableText → Numbered → Circuit → Circuit
with_table output line text inputs c = record c {
  nets = with_net inputs.nets output;
  tables = c.tables ++ record {
    table = record { inputs = inputs.numbers; rows = text.rows; on = text.on };
    output = number_of_net inputs.nets output;
    line = line;
  } ∷ [];
}

-- with a net at the end where there is one and it is not there yet
abbrev pub with_net_if_some : List Net → Option Net → List Net
with_net_if_some nets None = nets
with_net_if_some nets (Some net) = with_net nets net

-- the numbers of the nets of a latch, and all nets with these
pub record NumberedLatch : Type 0 where
  pub data_net : ℕ
  pub output : ℕ
  pub control : Option ℕ
  pub nets : List Net

-- of a latch the data net is numbered first, then the output, then the control
abbrev pub numbered_latch : List Net → Net → Net → Option Net → NumberedLatch
numbered_latch nets data_net output control = record {
  data_net = number_of_net nets data_net;
  output = number_of_net (with_net nets data_net) output;
  control = option_map (number_of_net (with_net (with_net nets data_net) output)) control;
  nets = with_net_if_some (with_net (with_net nets data_net) output) control;
}

-- the numbers of a latch in a copy
abbrev pub latch_names : Scope → List Net → LatchText → NumberedLatch
latch_names scope nets text = numbered_latch nets (net_of_name scope text.data_net)
    (net_of_name scope text.output) (option_map (net_of_name scope) text.control)

-- with a register
abbrev pub with_register : ℕ → LatchText → NumberedLatch → Circuit → Circuit
with_register line text latch c = record c {
  nets = latch.nets;
  registers = c.registers ++ record {
    data_net = latch.data_net;
    output = latch.output;
    edge = text.edge;
    control = latch.control;
    initial = text.initial;
    line = line;
  } ∷ [];
}

-- with what a command says; a use adds nothing by itself
abbrev pub with_part : Scope → ℕ → Part → Circuit → Circuit
with_part scope line (Inputs names) c =
    with_inputs scope.copy (numbered_names scope c.nets names) c
with_part scope line (Outputs names) c =
    with_outputs scope.copy (numbered_names scope c.nets names) c
with_part scope line (Clock names) c =
    with_clocks scope.copy (numbered_names scope c.nets names) c
with_part scope line (Table text) c =
    with_table (net_of_name scope text.output) line text (numbered_names scope c.nets text.inputs) c
with_part scope line (Latch text) c =
    with_register line text (latch_names scope c.nets text) c
with_part scope line (Subckt call) c = c
