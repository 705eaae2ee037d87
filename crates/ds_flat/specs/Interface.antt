-- The names of models and of their interfaces, each once.
use Rattle.std.specs.Prelude.{◌≡◌, ◌<◌, ℕ, List, [], ◌∷◌, map, length, Some}
use Rattle.ds_lines.specs.Names.{with_name, place_of_name}
use Rattle.ds_design.specs.declared.blif.BlifModel.{BlifModel}
use Rattle.ds_design.specs.declared.blif.Command.{Command}
use Rattle.ds_flat.specs.Copies.{ports_in, model_named}

-- with more names, each where it is not there yet
abbrev pub with_names : List (List ℕ) → List (List ℕ) → List (List ℕ)
with_names names [] = names
with_names names (name ∷ more) = with_names (with_name names name) more

-- with the names of an interface, each once
abbrev pub with_ports_of : List (List ℕ) → List Command → List (List ℕ)
with_ports_of names [] = names
with_ports_of names (command ∷ commands) =
    with_ports_of (with_names names (ports_in command.part)) commands

-- the names of a model's interface, each once
abbrev pub ports_by : BlifModel → List (List ℕ)
ports_by model = with_ports_of [] model.commands

-- the names of models
abbrev pub names_of_models : List BlifModel → List (List ℕ)
names_of_models models = map (λ model. model.name) models

-- what a library keeps beside its models: their names, and the names of their interfaces
pub record IsLibrary (models : List BlifModel) (all : List (List ℕ))
    (each : List (List (List ℕ))) : Type 0 where
  pub names : all ≡ names_of_models models
  pub ports : each ≡ map ports_by models

-- a model is found by its name: its place, itself, and the names of its interface
pub record Finds (models : List BlifModel) (name : List ℕ) (k : ℕ) (model : BlifModel)
    (names : List (List ℕ)) : Type 0 where
  pub place : k ≡ place_of_name (names_of_models models) name
  pub within : k < length models
  pub named : model_named models name ≡ Some model
  pub ports : names ≡ ports_by model
