-- Worked models, each with its flat design or its fault.
use Rattle.std.specs.Prelude.{◌≡◌, List, [], ◌∷◌, ℕ, Ok, Err, true, codes}
use Rattle.ds_design.specs.declared.blif.Pair.{Pair}
use Rattle.ds_design.specs.declared.blif.Part.{Part}
use Rattle.ds_design.specs.declared.blif.Part.TheVariants.{Inputs, Outputs, Table, Subckt}
use Rattle.ds_design.specs.declared.blif.Command.{Command}
use Rattle.ds_design.specs.declared.blif.BlifModel.{BlifModel}
use Rattle.ds_design.specs.declared.design.Net.{Net}
use Rattle.ds_design.specs.declared.design.Gate.{Gate}
use Rattle.ds_flat.specs.declared.fault.FlatKind.TheVariants.{UnknownModel, Recursive}
use Rattle.ds_flat.specs.declared.fault.FlatKind.TheVariants.{UnknownFormal}
use Rattle.ds_flat.specs.Copies.{flat_of}

-- a command on a line
abbrev pub command : ℕ → Part → Command
command line part = record { line = line; part = part }

-- a model of commands
abbrev pub model : List ℕ → ℕ → List Command → BlifModel
model name line commands = record { name = name; line = line; commands = commands }

-- a pair of a formal and an actual
abbrev pub formal_pair : List ℕ → List ℕ → Pair
formal_pair formal actual = record { formal = formal; actual = actual }

-- a use of a model
abbrev pub use_part : List ℕ → List Pair → Part
use_part name pairs = Subckt (record { model = name; pairs = pairs })

-- a net of a copy
abbrev pub net : ℕ → List ℕ → Net
net copy name = record { copy = copy; name = name }

-- an inverter on line 10
abbrev pub inverter : ℕ → ℕ → Gate
inverter input output = record {
  table = record { inputs = input ∷ []; rows = codes "0" ∷ []; on = true };
  output = output;
  line = 10;
}

-- a model of an inverter
abbrev pub inv : BlifModel
inv = model (codes "inv") 7 (command 8 (Inputs (codes "i" ∷ []))
    ∷ command 9 (Outputs (codes "o" ∷ []))
    ∷ command 10 (Table (record {
      inputs = codes "i" ∷ [];
      output = codes "o";
      rows = codes "0" ∷ [];
      on = true;
    })) ∷ [])

-- a model that uses two inverters, its first use with these further pairs
abbrev pub top : List Pair → BlifModel
top pairs = model (codes "top") 1 (command 2 (Inputs (codes "a" ∷ []))
    ∷ command 3 (Outputs (codes "y" ∷ []))
    ∷ command 4 (use_part (codes "inv") (formal_pair (codes "i") (codes "a")
    ∷ formal_pair (codes "o") (codes "t") ∷ pairs))
    ∷ command 5 (use_part (codes "inv") (formal_pair (codes "i") (codes "t")
    ∷ formal_pair (codes "o") (codes "y") ∷ [])) ∷ [])

-- each text beside its flat design or its fault
pub record FlatDesignsAreWorked : Type 0 where
  -- two inverters in a chain
  pub two_inverters : flat_of (top [] ∷ inv ∷ []) ≡ Ok (record {
    name = codes "top";
    nets = net 0 (codes "a") ∷ net 0 (codes "y") ∷ net 0 (codes "t") ∷ [];
    inputs = 0 ∷ [];
    outputs = 1 ∷ [];
    clocks = [];
    tables = inverter 0 2 ∷ inverter 2 1 ∷ [];
    registers = [];
  })
  -- a formal that the model lacks
  pub unknown_formal_z : flat_of (top (formal_pair (codes "z") (codes "a") ∷ []) ∷ inv ∷ [])
      ≡ Err (record { line = 4; kind = UnknownFormal (codes "z") })
  -- the same where its actual is empty
  pub unknown_formal_empty : flat_of (top (formal_pair (codes "z") [] ∷ []) ∷ inv ∷ [])
      ≡ Err (record { line = 4; kind = UnknownFormal (codes "z") })
  -- a model that is not there
  pub unknown_model_inv : flat_of (top [] ∷ [])
      ≡ Err (record { line = 4; kind = UnknownModel (codes "inv") })
  -- a model that uses itself
  pub recursive_loop : flat_of (model (codes "loop") 1 (command 4 (use_part (codes "loop") [])
      ∷ []) ∷ []) ≡ Err (record { line = 4; kind = Recursive (codes "loop" ∷ []) })
  -- two models that use each other, the first by way of a third
  pub recursive_pq : flat_of (model (codes "m") 1 (command 2 (use_part (codes "p") []) ∷ [])
      ∷ model (codes "p") 4 (command 5 (use_part (codes "q") []) ∷ [])
      ∷ model (codes "q") 7 (command 8 (use_part (codes "p") []) ∷ []) ∷ [])
      ≡ Err (record { line = 8; kind = Recursive (codes "p" ∷ codes "q" ∷ []) })
  -- an unconnected formal is a net of its copy, and is numbered behind the nets of the use
  pub unconnected : flat_of (model (codes "m") 1 (command 2 (use_part (codes "inv")
      (formal_pair (codes "o") (codes "y") ∷ formal_pair (codes "i") [] ∷ [])) ∷ []) ∷ inv ∷ [])
      ≡ Ok (record {
        name = codes "m";
        nets = net 0 (codes "y") ∷ net 1 (codes "i") ∷ [];
        inputs = [];
        outputs = [];
        clocks = [];
        tables = inverter 1 0 ∷ [];
        registers = [];
      })
  -- a name that is repeated in one kind counts once
  pub repeated_input : flat_of (model (codes "m") 1 (command 2 (Inputs (codes "b" ∷ codes "a"
      ∷ codes "b" ∷ [])) ∷ command 3 (Inputs (codes "a" ∷ [])) ∷ []) ∷ [])
      ≡ Ok (record {
        name = codes "m";
        nets = net 0 (codes "b") ∷ net 0 (codes "a") ∷ [];
        inputs = 0 ∷ 1 ∷ [];
        outputs = [];
        clocks = [];
        tables = [];
        registers = [];
      })
