-- Texts of netlists, worked by hand, against the words of the format.
use Rattle.std.specs.Prelude.{◌≡◌, ℕ, List, [], ◌∷◌, ◌++◌, codes, None, Some, true, false, Ok, Err}
use Rattle.std.specs.Prelude.{replicate, Option, Bool}
use Rattle.ds_lines.specs.Line.{lines_of}
use Rattle.ds_lines.specs.Worked.{physical}
use Rattle.ds_base.specs.declared.number.Limit.TheVariants.{TableInputs}
use Rattle.ds_design.specs.declared.design.Edge.{Edge}
use Rattle.ds_design.specs.declared.design.Edge.TheVariants.{Rising, Falling}
use Rattle.ds_design.specs.declared.blif.Part.TheVariants.{Inputs, Outputs, Clock, Table, Latch}
use Rattle.ds_design.specs.declared.blif.Part.TheVariants.{Subckt}
use Rattle.ds_design.specs.declared.blif.TableText.{TableText}
use Rattle.ds_design.specs.declared.blif.LatchText.{LatchText}
use Rattle.ds_design.specs.declared.blif.Pair.{Pair}
use Rattle.ds_design.specs.declared.blif.BlifModel.{BlifModel}
use Rattle.ds_blif.specs.Fault.{names_fault}
use Rattle.ds_blif.specs.Text.{models_of_text}
use Rattle.ds_blif.specs.declared.fault.BlifKind.{BlifKind}
use Rattle.ds_blif.specs.declared.fault.BlifKind.TheVariants.{Unsupported, NoModel, RowWithoutTable}
use Rattle.ds_blif.specs.declared.fault.BlifKind.TheVariants.{BadWords, TooMany, LevelLatch}
use Rattle.ds_blif.specs.declared.fault.BlifKind.TheVariants.{BadInit}
use Rattle.ds_blif.specs.declared.fault.BlifKind.TheVariants.{RepeatedModel, BadRow, MixedRows}

-- a text of these physical lines has this fault first
abbrev pub HasFault : List (List ℕ) → ℕ → BlifKind → Type 0
HasFault text line kind =
    models_of_text (lines_of (physical text)) ≡ Err (record { line = line; kind = kind })

-- the lines of a model up to its line 3
abbrev pub head : List (List ℕ)
head = codes ".model m" ∷ codes ".inputs a b" ∷ codes ".outputs y" ∷ []

-- with these lines from line 4 on
abbrev pub from_four : List (List ℕ) → List (List ℕ)
from_four lines = head ++ lines

-- with a table, its first row on line 5, and these lines from line 6 on
abbrev pub from_six : List (List ℕ) → List (List ℕ)
from_six lines = head ++ codes ".names a b y" ∷ codes "11 1" ∷ lines

-- rows that fit no table, or not theirs; a skipped line stands between a table and its rows
pub record FaultsOfRows : Type 0 where
  pub mixed : HasFault (from_six (codes "00 0" ∷ codes ".end" ∷ [])) 6 MixedRows
  pub short : HasFault (from_six (codes "0 1" ∷ codes ".end" ∷ [])) 6 BadRow
  pub byte : HasFault (from_six (codes "0x 1" ∷ [])) 6 BadRow
  pub both : HasFault (from_six (codes "0 0" ∷ [])) 6 BadRow
  pub behind : HasFault (from_six (codes ".area 5" ∷ codes "00 0" ∷ [])) 7 MixedRows
  pub no_table : HasFault (from_four (codes "11 1" ∷ [])) 4 RowWithoutTable
  pub parted : HasFault (from_six (codes ".clock c" ∷ codes "0" ∷ [])) 7 RowWithoutTable

-- latches with too few words, an unknown type, a type that is not edge-triggered, no initial value
pub record FaultsOfLatches : Type 0 where
  pub few : HasFault (from_six (codes ".latch a" ∷ [])) 6 BadWords
  pub unknown : HasFault (from_six (codes ".latch a z xx c" ∷ [])) 6 BadWords
  pub level : HasFault (from_six (codes ".latch a z ah c 7" ∷ [])) 6 LevelLatch
  pub init : HasFault (from_six (codes ".latch a z re c 7" ∷ [])) 6 BadInit
  pub lone_edge : HasFault (from_six (codes ".latch a z re" ∷ [])) 6 BadInit
  pub lone_level : HasFault (from_six (codes ".latch a z ah" ∷ [])) 6 BadInit

-- uses of models without a model, without `=`, without a formal, with a formal twice
pub record FaultsOfUses : Type 0 where
  pub alone : HasFault (from_four (codes ".subckt" ∷ [])) 4 BadWords
  pub no_equals : HasFault (from_four (codes ".subckt n a=b c" ∷ [])) 4 BadWords
  pub no_formal : HasFault (from_four (codes ".subckt n =b" ∷ [])) 4 BadWords
  pub twice : HasFault (from_four (codes ".subckt n a=b c= a=d" ∷ [])) 4 BadWords

-- commands that are unknown, that stand outside of a model, that lack words; models without a name
-- of their own; texts without a model
pub record FaultsOfCommands : Type 0 where
  pub unknown : HasFault (from_six (codes ".gate x" ∷ [])) 6 (Unsupported (codes ".gate"))
  pub dot : HasFault (codes ". x" ∷ []) 1 (Unsupported (codes "."))
  pub outside : HasFault (codes ".area 5" ∷ codes ".latch" ∷ []) 2 NoModel
  pub ended : HasFault (from_six (codes ".end of m" ∷ codes "00 1" ∷ [])) 7 NoModel
  pub no_output : HasFault (from_four (codes ".names # y" ∷ [])) 4 BadWords
  pub two_names : HasFault (codes ".model m n" ∷ []) 1 BadWords
  pub repeated : HasFault (from_four (codes ".model n" ∷ codes ".model m" ∷ [])) 5
      (RepeatedModel (codes "m"))
  pub empty : HasFault [] 1 NoModel
  pub no_model : HasFault (codes ".area 5" ∷ codes ".end" ∷ codes ".end" ∷ []) 1 NoModel

-- a table has at most 1,024 inputs
pub record FaultsOfTables : Type 0 where
  pub most : names_fault (codes ".names" ∷ replicate 1025 (codes "a")) ≡ None
  pub more : names_fault (codes ".names" ∷ replicate 1026 (codes "a")) ≡ Some (TooMany TableInputs)

-- each kind of fault
pub record FaultsAreWorked : Type 0 where
  pub rows : FaultsOfRows
  pub latches : FaultsOfLatches
  pub uses : FaultsOfUses
  pub commands : FaultsOfCommands
  pub tables : FaultsOfTables

-- a text with a skipped line between a table and its row, each form of latch, a constant 0, an
-- unconnected formal, an actual with an `=`, words behind `.end`, a model without one
abbrev pub worked_text : List (List ℕ)
worked_text =
    codes ".end"
    ∷ codes ".model m"
    ∷ codes ".inputs a b a"
    ∷ codes ".outputs"
    ∷ codes ".clock c"
    ∷ codes ".names a b y"
    ∷ codes ".area 7"
    ∷ codes "1- 0"
    ∷ codes "01 0"
    ∷ codes ".latch y z"
    ∷ codes ".latch y w 1"
    ∷ codes ".latch y v re NIL"
    ∷ codes ".latch y u fe c 2"
    ∷ codes ".names k"
    ∷ codes "0"
    ∷ codes ".names l"
    ∷ codes ".subckt n p=a q= r=b=c"
    ∷ codes ".end of m"
    ∷ codes ".model n"
    ∷ []

-- a latch of `y`
abbrev pub latch : List ℕ → Option Edge → Option (List ℕ) → ℕ → LatchText
latch output edge control initial = record {
  data_net = codes "y";
  output = output;
  edge = edge;
  control = control;
  initial = initial;
}

-- a table without inputs
abbrev pub constant : List ℕ → List (List ℕ) → Bool → TableText
constant output rows on = record { inputs = []; output = output; rows = rows; on = on }

-- a pair of a use
abbrev pub pair : List ℕ → List ℕ → Pair
pair formal actual = record { formal = formal; actual = actual }

-- its models
abbrev pub worked_models : List BlifModel
worked_models =
    record {
      name = codes "m";
      line = 2;
      commands =
          record { line = 3; part = Inputs (codes "a" ∷ codes "b" ∷ codes "a" ∷ []) }
          ∷ record { line = 4; part = Outputs [] }
          ∷ record { line = 5; part = Clock (codes "c" ∷ []) }
          ∷ record {
            line = 6;
            part = Table (record {
              inputs = codes "a" ∷ codes "b" ∷ [];
              output = codes "y";
              rows = codes "1-" ∷ codes "01" ∷ [];
              on = false;
            });
          }
          ∷ record { line = 10; part = Latch (latch (codes "z") None None 3) }
          ∷ record { line = 11; part = Latch (latch (codes "w") None None 1) }
          ∷ record { line = 12; part = Latch (latch (codes "v") (Some Rising) None 3) }
          ∷ record {
            line = 13;
            part = Latch (latch (codes "u") (Some Falling) (Some (codes "c")) 2);
          }
          ∷ record { line = 14; part = Table (constant (codes "k") ([] ∷ []) false) }
          ∷ record { line = 16; part = Table (constant (codes "l") [] true) }
          ∷ record {
            line = 17;
            part = Subckt (record {
              model = codes "n";
              pairs = pair (codes "p") (codes "a") ∷ pair (codes "q") []
                  ∷ pair (codes "r") (codes "b=c") ∷ [];
            });
          }
          ∷ [];
    }
    ∷ record { name = codes "n"; line = 19; commands = [] }
    ∷ []

-- the text stands for these models
abbrev pub ModelsAreWorked : Type 0
ModelsAreWorked = models_of_text (lines_of (physical worked_text)) ≡ Ok worked_models
