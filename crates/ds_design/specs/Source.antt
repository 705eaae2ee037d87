-- The models of a text that can be given a meaning.
use Rattle.std.specs.Prelude.{◌≡◌, ◌≢◌, ◌⊎◌, ℕ, ◌<◌, ◌≤◌, List, length, All, AllPairs}
use Rattle.ds_design.specs.declared.blif.TableText.{TableText}
use Rattle.ds_design.specs.declared.blif.LatchText.{LatchText}
use Rattle.ds_design.specs.declared.blif.UseText.{UseText}
use Rattle.ds_design.specs.declared.blif.Part.{Part}
use Rattle.ds_design.specs.declared.blif.Part.TheVariants.{Inputs, Outputs, Clock, Table, Latch}
use Rattle.ds_design.specs.declared.blif.Part.TheVariants.{Subckt}
use Rattle.ds_design.specs.declared.blif.BlifModel.{BlifModel}

-- a character of a row: `-` (45), `0` (48) or `1` (49)
abbrev pub IsPlaneByte : ℕ → Type 0
IsPlaneByte byte = (byte ≡ 45) ⊎ (byte ≡ 48) ⊎ (byte ≡ 49)

-- each row has a character for each input
abbrev pub IsTableText : TableText → Type 0
IsTableText t = All (λ row. (length row ≡ length t.inputs) × All IsPlaneByte row) t.rows

-- an initial value is 0 to 3
abbrev pub IsLatchText : LatchText → Type 0
IsLatchText l = l.initial ≤ 3

-- no formal is connected twice
abbrev pub IsUseText : UseText → Type 0
IsUseText u = AllPairs (λ one other. one.formal ≢ other.formal) u.pairs

-- what is asked of a command by itself
abbrev pub IsPart : Part → Type 0
IsPart (Inputs names) = Unit {0}
IsPart (Outputs names) = Unit {0}
IsPart (Clock names) = Unit {0}
IsPart (Table table) = IsTableText table
IsPart (Latch latch) = IsLatchText latch
IsPart (Subckt call) = IsUseText call

-- there is a model, no two have one name, and each command is well formed
pub record IsBlif (models : List BlifModel) : Type 0 where
  pub some : 0 < length models
  pub distinct : AllPairs (λ one other. one.name ≢ other.name) models
  pub parts : All (λ model. All (λ command. IsPart command.part) model.commands) models
