-- What is left to take, and what it comes to.
use Rattle.std.specs.Prelude.{◌≡◌, ◌<◌, ◌≤◌, ◌+◌, ◌-◌, ◌++◌, ℕ, List, [], ◌∷◌, map, length, All}
use Rattle.std.specs.Prelude.{Result, Ok, if◌then◌else◌}
use Rattle.std.specs.Str.{bytes_eq}
use Rattle.ds_base.specs.declared.number.Limit.TheVariants.{Nets}
use Rattle.ds_lines.specs.Names.{place_of_name}
use Rattle.ds_design.specs.declared.blif.BlifModel.{BlifModel}
use Rattle.ds_design.specs.declared.blif.Command.{Command}
use Rattle.ds_design.specs.declared.blif.Pair.{Pair}
use Rattle.ds_design.specs.declared.blif.UseText.{UseText}
use Rattle.ds_design.specs.Source.{IsPart}
use Rattle.ds_design.specs.Circuit.{Circuit}
use Rattle.ds_design.specs.InRange.{IsInRange}
use Rattle.ds_lines.specs.declared.at.At.{At}
use Rattle.ds_flat.specs.declared.fault.FlatKind.TheVariants.{TooMany}
use Rattle.ds_base.specs.declared.refusal.Refusal.{Refusal}
use Rattle.ds_base.specs.declared.refusal.Refusal.TheVariants.{Fault, Memory}
use Rattle.ds_base.specs.Refusal.{RefusesAs}
use Rattle.ds_flat.specs.declared.fault.NoNumber.{NoNumber}
use Rattle.ds_flat.specs.declared.fault.NoNumber.TheVariants.{TooManyNets, Memory as NoMemory}
use Rattle.ds_flat.specs.declared.frame.Open.{Open}
use Rattle.ds_flat.specs.Net.{Scope}
use Rattle.ds_flat.specs.Copies.{Flat, Frame, Opened, ◌>>=◌, use_in, take_command, take_all, expand}
use Rattle.ds_flat.specs.Copies.{open_use, opened_within, next_copy, bindings_in}
use Rattle.ds_flat.specs.Interface.{names_of_models}
use Rattle.ds_flat.specs.Stack.{frame_on, path_of}
use Rattle.ds_flat.specs.declared.fault.FlatKind.{FlatKind}

-- what taking these frames gives, the innermost first: the outermost may have so many copies in one
-- another
unfoldable pub run_frames : List BlifModel → List Frame → Flat → Result Flat (At FlatKind)
run_frames models [] flat = Ok flat
run_frames models (frame ∷ frames) flat =
    take_all (expand (65536 - length frames) models) models frame.path frame.scope frame.commands
    flat >>= run_frames models frames

-- frames that are left, with the places of their models of so many, and what was taken
pub record Rest : Type 0 where
  pub frames : List Frame
  pub places : List ℕ
  pub models : ℕ
  pub flat : Flat

-- what it comes to
abbrev pub run_rest : List BlifModel → Rest → Result Flat (At FlatKind)
run_rest models rest = run_frames models rest.frames rest.flat

-- the refusal that a stop is on a line
abbrev pub refusal_of : NoNumber → ℕ → Refusal (At FlatKind)
refusal_of TooManyNets line = Fault (record { line = line; kind = TooMany Nets })
refusal_of NoMemory line = Memory

-- each place is one of so many
abbrev pub AreWithin : ℕ → List ℕ → Type 0
AreWithin models [] = Unit {0}
AreWithin models (place ∷ places) = (place < models) × AreWithin models places

-- the commands of frames are well formed
abbrev pub AreFrameParts : List Frame → Type 0
AreFrameParts [] = Unit {0}
AreFrameParts (frame ∷ frames) = All (λ command. IsPart command.part) frame.commands
    × AreFrameParts frames

-- the commands of models are well formed
abbrev pub HaveParts : List BlifModel → Type 0
HaveParts models = All (λ model. All (λ command. IsPart command.part) model.commands) models

-- what holds of a rest: each frame but the outermost is a copy, copies are few, places are those of
-- the frames' models, and commands and numbers are sound
pub record IsRestKept (models : List BlifModel) (rest : Rest) : Type 0 where
  pub depth : length rest.frames ≤ rest.flat.copies + 1
  pub copies : rest.flat.copies ≤ 65536
  pub count : length rest.places ≡ length rest.frames
  pub same : rest.models ≡ length models
  pub known : rest.places ≡ map (place_of_name (names_of_models models)) (path_of rest.frames)
  pub within : AreWithin rest.models rest.places
  pub parts : AreFrameParts rest.frames
  pub in_range : IsInRange rest.flat.design

-- a command of the innermost copy is taken, and then what is left
abbrev pub after_take : List BlifModel → List Frame → Flat → Command → Result Flat (At FlatKind)
after_take models [] flat command = Ok flat
after_take models (frame ∷ frames) flat command =
    take_command (expand (65536 - length frames) models) models frame.path frame.scope command
    (use_in command.part) flat >>= run_frames models (frame ∷ frames)

-- the connected formals of a copy and one pair more
abbrev pub connected : Scope → Pair → Scope → Scope
connected caller pair scope = record scope {
  bound = scope.bound ++ bindings_in caller (pair ∷ []);
}

-- a refusal with this fault, unless memory was wanted
abbrev pub IsFlatRefusal : Refusal (At FlatKind) → At FlatKind → Type 0
IsFlatRefusal Memory fault = Unit {0}
IsFlatRefusal (Fault given) fault = given ≡ fault

-- a use copies this model, whatever the design so far
abbrev pub CopiesModel : List BlifModel → List (List ℕ) → Scope → ℕ → UseText → ℕ → BlifModel
    → Type 0
CopiesModel models path scope line call copies model = (design : Circuit)
    → open_use models path scope line call (record { copies = copies; design = design })
    ≡ opened_within line (next_copy path scope call model
    (record { copies = copies; design = design }))

-- a use is refused, whatever the design so far
abbrev pub RefusesUse : Refusal (At FlatKind) → List BlifModel → List (List ℕ) → Scope → ℕ → UseText
    → ℕ → Type 0
RefusesUse refusal models path scope line call copies = (design : Circuit)
    → RefusesAs refusal (open_use models path scope line call (record {
      copies = copies;
      design = design;
    }))

-- what a use opens: this copy on top of a path, over a design
abbrev pub opened_on : List (List ℕ) → Open → ℕ → Circuit → Opened
opened_on path top copies design = record {
  frame = frame_on top path;
  flat = record { copies = copies + 1; design = design };
}

-- the part of a path with one more model, the innermost
abbrev pub path_with : List ℕ → List ℕ → List (List ℕ) → List (List ℕ)
path_with name model path = if bytes_eq name model then model ∷ [] else path ++ model ∷ []

-- a copy of the model at a place, none of whose commands is taken yet
pub record IsCopyOf (top : Open) (k : ℕ) (model : BlifModel) : Type 0 where
  pub place : top.model ≡ k
  pub name : top.name.now ≡ model.name
  pub commands : top.commands.now ≡ model.commands
