-- A fault that says that models are recursive names a circle of them, each of which uses the next.
use Rattle.std.specs.Prelude.{◌≡◌, ◌≢◌, ℕ, List, [], ◌∷◌, AllPairs, Contains, Some, Err}
use Rattle.ds_lines.specs.declared.at.At.{At}
use Rattle.ds_design.specs.declared.blif.UseText.{UseText}
use Rattle.ds_design.specs.declared.blif.Command.{Command}
use Rattle.ds_design.specs.declared.blif.BlifModel.{BlifModel}
use Rattle.ds_flat.specs.declared.fault.FlatKind.{FlatKind}
use Rattle.ds_flat.specs.declared.fault.FlatKind.TheVariants.{Recursive}
use Rattle.ds_flat.specs.Copies.{flat_of, model_named, use_in}

-- among the commands of the model of a name is, on a line, a use of the model of another name
pub record IsUsedOn (models : List BlifModel) (line : ℕ) (used user : List ℕ) : Type 0 where
  pub model : BlifModel
  pub named : model_named models user ≡ Some model
  pub command : Command
  pub inside : Contains model.commands command
  pub on_line : command.line ≡ line
  pub call : UseText
  pub is_use : use_in command.part ≡ Some call
  pub of : call.model ≡ used

-- the same on some line
abbrev pub IsUsedBy : List BlifModel → List ℕ → List ℕ → Type 0
IsUsedBy models used user = (line : ℕ) × IsUsedOn models line used user

-- the model of a name uses that of the first of these, each of these the next, and the last, on a
-- line, the model of another name
abbrev pub UseInTurn : List BlifModel → List ℕ → List (List ℕ) → ℕ → List ℕ → Type 0
UseInTurn models user [] line used = IsUsedOn models line used user
UseInTurn models user (name ∷ names) line used = IsUsedBy models name user
    × UseInTurn models name names line used

-- each of these models uses the next, and the last, on a line, the first; none is named twice
abbrev pub AreCircle : List BlifModel → ℕ → List (List ℕ) → Type 0
AreCircle models line [] = ⊥
AreCircle models line (name ∷ names) = UseInTurn models name names line name
    × AllPairs (λ one other. one ≢ other) (name ∷ names)

-- the models that such a fault names are a circle, which the use on its line closes
abbrev pub RecursiveFaultsAreCircles : Type 0
RecursiveFaultsAreCircles = (models : List BlifModel) (fault : At FlatKind)
    (names : List (List ℕ)) → flat_of models ≡ Err fault → fault.kind ≡ Recursive names
    → AreCircle models fault.line names
