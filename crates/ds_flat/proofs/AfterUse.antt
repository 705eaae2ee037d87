-- What a use or a turn leaves.
use Rattle.std.proofs.Common.{◌≡◌, ℕ, ◌+◌, List, [], ◌∷◌}
use Rattle.std.proofs.Common.{Result, Ok, sym, ap, ◌∙◌, subst}
use Rattle.ds_design.specs.declared.blif.UseText.{UseText}
use Rattle.ds_design.specs.declared.blif.Command.{Command}
use Rattle.ds_design.specs.declared.blif.BlifModel.{BlifModel}
use Rattle.ds_design.specs.Circuit.{Circuit}
use Rattle.ds_lines.specs.declared.at.At.{At}
use Rattle.ds_base.specs.declared.refusal.Refusal.{Refusal}
use Rattle.ds_base.specs.Refusal.{RefusesAs}
use Rattle.ds_flat.specs.declared.frame.Open.{Open}
use Rattle.ds_flat.specs.Net.{Scope}
use Rattle.ds_flat.specs.Copies.{Flat, Frame, Opened, ◌>>=◌, open_use, opened_within, next_copy}
use Rattle.ds_flat.specs.Stack.{Stacked, frame_on, put_on, path_of}
use Rattle.ds_flat.specs.Run.{run_frames, Rest, run_rest, CopiesModel, RefusesUse, opened_on, after_take}
use Rattle.ds_flat.specs.Use.{after_use}
use Rattle.ds_flat.proofs.RestInvariant.{rest_of}
use Rattle.ds_flat.proofs.FrameSteps.{fault_bind, fault_same, run_frames-done, run_frames-take}
use Rattle.ds_flat.specs.declared.fault.FlatKind.{FlatKind}

-- what a copy sees as its path
abbrev pub path_at : Open → Stacked → List (List ℕ)
path_at top below = top.name.now ∷ path_of below.frames

-- what is left after a use
abbrev pub after_use_of : List BlifModel → Rest → ℕ → UseText → Result Flat (At FlatKind)
after_use_of models rest line call = after_use models rest.frames rest.flat line call

module _ (models : List BlifModel) (top : Open) (below : Stacked) (copies : ℕ) (design : Circuit)
    (line : ℕ) (call : UseText) (rest : Rest) (view : rest_of top below copies design ≡ rest) where
  pub use_refused : (e : Refusal (At FlatKind))
      → RefusesUse e models (path_at top below) top.scope line call copies
      → RefusesAs e (after_use_of models rest line call)
  use_refused e refuses =
      subst (λ (r : Rest). RefusesAs e (after_use_of models r line call)) view
      (fault_bind e (open_use models (path_at top below) top.scope line call (record { copies = copies; design = design })) _ (refuses design))

  module _ (model : BlifModel)
      (copies_it : CopiesModel models (path_at top below) top.scope line call copies model) where
    pub use_fault : (e : Refusal (At FlatKind))
        → RefusesAs e (opened_within line (next_copy (path_at top below) top.scope call model (record { copies = copies; design = design })))
        → RefusesAs e (after_use_of models rest line call)
    use_fault e fault =
        subst (λ (r : Rest). RefusesAs e (after_use_of models r line call)) view
        (fault_bind e (open_use models (path_at top below) top.scope line call (record { copies = copies; design = design })) _
        (fault_same e _ _ (sym (copies_it design)) fault))

    pub use_value : (next : Open) (pushed : Stacked) (after : Circuit)
        → opened_within line (next_copy (path_at top below) top.scope call model (record { copies = copies; design = design }))
        ≡ Ok (opened_on (path_at top below) next copies after)
        → pushed ≡ put_on top below
        → run_rest models (rest_of next pushed (copies + 1) after) ≡ after_use_of models rest line call
    use_value next pushed after is on =
        ap (λ (s : Stacked). run_rest models (rest_of next s (copies + 1) after)) on
        ∙ (sym (ap (λ (r : Result Opened (At FlatKind)). r >>= λ (o : Opened). run_frames models (o.frame
        ∷ frame_on top (path_of below.frames) ∷ below.frames) o.flat) (copies_it design ∙ is))
        ∙ ap (λ (r : Rest). after_use_of models r line call) view)

-- the first command of the innermost copy is taken
pub turn_taken : (models : List BlifModel) (top behind : Open) (below : Stacked) (copies : ℕ)
    (design : Circuit) (rest : Rest) (command : Command) (commands : List Command)
    → rest_of top below copies design ≡ rest → top.commands.now ≡ command ∷ commands
    → behind.commands.now ≡ commands → behind.scope ≡ top.scope → behind.name.now ≡ top.name.now
    → after_take models (rest_of behind below copies design).frames
    (record { copies = copies; design = design }) command ≡ run_rest models rest
turn_taken models top behind below copies design rest command commands view first behind_is scope name =
    ap (λ (cs : List Command). after_take models (record {
      path = behind.name.now
          ∷ path_of below.frames;
      scope = behind.scope;
      commands = cs;
    } ∷ below.frames) (record { copies = copies; design = design }) command) behind_is
    ∙ (ap (λ (s : Scope). after_take models (record {
      path = behind.name.now
          ∷ path_of below.frames;
      scope = s;
      commands = commands;
    } ∷ below.frames) (record { copies = copies; design = design }) command) scope
    ∙ (ap (λ (n : List ℕ). after_take models (record {
      path = n
          ∷ path_of below.frames;
      scope = top.scope;
      commands = commands;
    } ∷ below.frames) (record { copies = copies; design = design }) command) name
    ∙ (sym (run_frames-take models (top.name.now ∷ path_of below.frames) top.scope below.frames
    command commands (record { copies = copies; design = design }))
    ∙ (ap (λ (cs : List Command). run_frames models (record {
      path = top.name.now
          ∷ path_of below.frames;
      scope = top.scope;
      commands = cs;
    } ∷ below.frames) (record { copies = copies; design = design })) (sym first)
    ∙ ap (run_rest models) view))))

-- a copy without commands is left
pub turn_left : (models : List BlifModel) (top : Open) (below : Stacked) (copies : ℕ)
    (design : Circuit) (rest : Rest) → rest_of top below copies design ≡ rest
    → top.commands.now ≡ []
    → run_frames models below.frames (record { copies = copies; design = design }) ≡ run_rest models rest
turn_left models top below copies design rest view none =
    sym (run_frames-done models (frame_on top (path_of below.frames)) below.frames
    (record { copies = copies; design = design }) none) ∙ ap (run_rest models) view

-- without frames the whole is what was taken
pub run-empty : (models : List BlifModel) (frames : List Frame) (flat : Flat) → frames ≡ []
    → run_frames models frames flat ≡ Ok flat
unfolding run_frames
run-empty models frames flat none = ap (λ (fs : List Frame). run_frames models fs flat) none
