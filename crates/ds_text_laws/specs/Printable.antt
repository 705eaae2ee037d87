-- Which models can be printed: what a reader refuses is none of them.
use Rattle.std.specs.Prelude.{◌≡◌, ℕ, ◌≤◌, Bool, true, false, List, [], ◌∷◌, ◌++◌, map, length}
use Rattle.std.specs.Prelude.{codes, Option, None, Some}
use Rattle.std.specs.List.{list_all, list_any, AllByRecursion}
use Rattle.std.specs.Str.{bytes_eq}
use Rattle.ds_blif.specs.Form.{is_plane_byte, is_equals, has_bad_pairs}
use Rattle.ds_text_laws.specs.BlifText.{pair_word}
use Rattle.ds_design.specs.declared.design.Edge.{Edge}
use Rattle.ds_design.specs.declared.blif.TableText.{TableText}
use Rattle.ds_design.specs.declared.blif.LatchText.{LatchText}
use Rattle.ds_design.specs.declared.blif.Pair.{Pair}
use Rattle.ds_design.specs.declared.blif.UseText.{UseText}
use Rattle.ds_design.specs.declared.blif.Part.{Part}
use Rattle.ds_design.specs.declared.blif.Part.TheVariants.{Inputs, Outputs, Clock, Table, Latch}
use Rattle.ds_design.specs.declared.blif.Part.TheVariants.{Subckt}
use Rattle.ds_design.specs.declared.blif.Command.{Command}
use Rattle.ds_design.specs.declared.blif.BlifModel.{BlifModel}

-- a row for so many inputs
pub record IsPlane (width : ℕ) (plane : List ℕ) : Type 0 where
  pub long : length plane ≡ width
  pub bytes : list_all is_plane_byte plane ≡ true

-- a table without rows lists where it is 1
abbrev pub OnWhereEmpty : List (List ℕ) → Bool → Type 0
OnWhereEmpty [] on = on ≡ true
OnWhereEmpty (row ∷ rows) on = Unit {0}

-- a table of at most 1,024 inputs, whose rows fit them
pub record IsTable (table : TableText) : Type 0 where
  pub inputs : length table.inputs ≤ 1024
  pub rows : AllByRecursion (IsPlane (length table.inputs)) table.rows
  pub on : OnWhereEmpty table.rows table.on

-- a control stands beside a type alone, and is not named `NIL`
abbrev pub IsControl : Option Edge → Option (List ℕ) → Type 0
IsControl edge None = Unit {0}
IsControl None (Some name) = ⊥
IsControl (Some edge) (Some name) = bytes_eq name (codes "NIL") ≡ false

-- a latch with a control that can be written, and an initial value
pub record IsLatch (latch : LatchText) : Type 0 where
  pub control : IsControl latch.edge latch.control
  pub initial : latch.initial ≤ 3

-- no `=` stands in a formal
pub record IsPair (pair : Pair) : Type 0 where
  pub plain : list_any is_equals pair.formal ≡ false

-- a use of a model with pairs that can be cut apart, no formal twice
pub record IsUse (call : UseText) : Type 0 where
  pub pairs : AllByRecursion IsPair call.pairs
  pub distinct : has_bad_pairs [] (map pair_word call.pairs) ≡ false

-- a command that can be printed
abbrev pub IsPrintable : Part → Type 0
IsPrintable (Inputs names) = Unit {0}
IsPrintable (Outputs names) = Unit {0}
IsPrintable (Clock names) = Unit {0}
IsPrintable (Table table) = IsTable table
IsPrintable (Latch latch) = IsLatch latch
IsPrintable (Subckt call) = IsUse call

-- each command can be printed
abbrev pub ArePrintableParts : List Command → Type 0
ArePrintableParts [] = Unit {0}
ArePrintableParts (command ∷ commands) = IsPrintable command.part × ArePrintableParts commands

-- each model can be printed, and its name is none of these and none of a later one
abbrev pub AreModels : List (List ℕ) → List BlifModel → Type 0
AreModels names [] = Unit {0}
AreModels names (model ∷ models) = (list_any (bytes_eq model.name) names ≡ false)
    × ArePrintableParts model.commands × AreModels (names ++ model.name ∷ []) models
