-- One turn of the copies that are being taken.
use Rattle.std.specs.Prelude.{◌≡◌, ◌<◌, ◌+◌, ◌-◌, ◌*◌, ℕ, List, [], ◌∷◌, length, Ok}
use Rattle.ds_design.specs.declared.blif.BlifModel.{BlifModel}
use Rattle.ds_design.specs.Circuit.{Circuit}
use Rattle.ds_design.specs.InRange.{IsInRange}
use Rattle.ds_flat.specs.declared.step.StepOutcome.{StepOutcome}
use Rattle.ds_flat.specs.declared.step.StepOutcome.TheVariants.{Next, Done}
use Rattle.ds_flat.specs.Copies.{Flat, Frame, ◌>>=◌}
use Rattle.ds_flat.specs.Run.{Rest, run_rest, IsRestKept}
use Rattle.ds_flat.specs.Stack.{Stacked}

-- how many commands models have
abbrev pub commands_of : List BlifModel → ℕ
commands_of [] = 0
commands_of (model ∷ models) = length model.commands + commands_of models

-- how many turns frames take without those that they open: one a command, and one a frame
abbrev pub turns_of : List Frame → ℕ
turns_of [] = 0
turns_of (frame ∷ frames) = length frame.commands + 1 + turns_of frames

-- how many turns a rest takes at most: no copy has more commands than all models
abbrev pub most_turns : List BlifModel → Rest → ℕ
most_turns models rest =
    turns_of rest.frames + (65536 - rest.flat.copies) * (commands_of models + 1)

-- the innermost copy goes on
pub record CopyGoesOn (models : List BlifModel) (next rest : Rest) : Type 0 where
  pub same : run_rest models next ≡ run_rest models rest
  pub kept : IsRestKept models next
  pub less : most_turns models next < most_turns models rest

-- all copies are taken
pub record HasTakenAll (models : List BlifModel) (design : Circuit) (rest : Rest) : Type 0 where
  pub same : run_rest models rest ≡ Ok (record { copies = rest.flat.copies; design = design })
  pub in_range : IsInRange design

-- what a turn gives
abbrev pub GivesTurn : List BlifModel → StepOutcome → Rest → Type 0
GivesTurn models (Next next) rest = CopyGoesOn models next rest
GivesTurn models (Done design) rest = HasTakenAll models design rest

-- what a turn gives where the innermost copy has no commands left: the copies that wait go on
abbrev pub LeavesCopies : StepOutcome → Stacked → ℕ → Circuit → Type 0
LeavesCopies (Next next) below copies design = next ≡ record {
  frames = below.frames;
  places = below.places;
  models = below.models;
  flat = record { copies = copies; design = design };
}
LeavesCopies (Done given) below copies design = (below.frames ≡ []) × (given ≡ design)

-- what taking a rest to its end comes to
pub record ComesTo (models : List BlifModel) (design : Circuit) (rest : Rest) : Type 0 where
  pub same : (run_rest models rest >>= λ (flat : Flat). Ok flat.design) ≡ Ok design
  pub in_range : IsInRange design
