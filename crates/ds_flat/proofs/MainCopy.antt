-- The main model's copy is the whole.
use Rattle.std.proofs.Common.{◌≡◌, ℕ, suc, ◌-◌, ◌<◌, List, [], ◌∷◌, length, Result, Ok, Err, refl, sym, ap, ◌∙◌, arith, get_or, subst}
use Rattle.ds_design.specs.declared.blif.BlifModel.{BlifModel}
use Rattle.ds_design.specs.declared.blif.Command.{Command}
use Rattle.ds_design.specs.Circuit.{Circuit}
use Rattle.ds_lines.specs.declared.at.At.{At}
use Rattle.ds_flat.specs.declared.frame.Open.{Open}
use Rattle.ds_flat.specs.Net.{Scope}
use Rattle.ds_flat.specs.Copies.{Flat, Frame, Opened, ◌>>=◌, flat_of, expand, main_copy, empty_design, take_all, most_depth}
use Rattle.ds_flat.specs.Stack.{Stacked, frame_on, path_of}
use Rattle.ds_flat.specs.Run.{run_frames, run_rest}
use Rattle.ds_flat.proofs.RestInvariant.{rest_of}
use Rattle.ds_flat.proofs.AfterUse.{run-empty}
use Rattle.ds_flat.proofs.NetsInRange.{empty_in_range}
use Rattle.std.specs.Str.{bytes_eq}
use Rattle.std.proofs.lemmas.Slice.Eq.{bytes_eq-Decides}
use Rattle.std.specs.List.{position_or_len}
use Rattle.std.specs.Prelude.{All, true}
use Rattle.ds_lines.specs.Names.{place_of_name}
use Rattle.ds_design.specs.InRange.{IsInRange}
use Rattle.ds_design.specs.Source.{IsBlif, IsPart}
use Rattle.ds_flat.specs.Interface.{names_of_models}
use Rattle.ds_flat.specs.Run.{IsRestKept}
use Rattle.ds_flat.specs.declared.fault.FlatKind.{FlatKind}

-- no frames follow
bind_nothing : (models : List BlifModel) (rest : List Frame) (r : Result Flat (At FlatKind))
    → rest ≡ [] → (r >>= run_frames models rest) ≡ r
bind_nothing models rest (Ok flat) none = run-empty models rest flat none
bind_nothing models rest (Err fault) none = refl

-- the only frame is expanded
alone : (d : ℕ) (models : List BlifModel) (frame : Frame) (rest : List Frame) (flat : Flat)
    → rest ≡ [] → 65536 - length rest ≡ d
    → run_frames models (frame ∷ rest) flat
    ≡ expand (suc d) models (record { frame = frame; flat = flat })
unfolding run_frames
alone d models frame rest flat none same =
    ap (λ (n : ℕ). take_all (expand n models) models frame.path frame.scope frame.commands flat
    >>= run_frames models rest) same
    ∙ bind_nothing models rest (take_all (expand d models) models frame.path frame.scope
    frame.commands flat) none

-- the first frame is that of the main model
first_copy : (main : BlifModel) (below : Stacked) (first : Open) (design : Circuit)
    → below.frames ≡ [] → first.name.now ≡ main.name → first.commands.now ≡ main.commands
    → first.scope ≡ record { copy = 0; bound = [] } → design ≡ empty_design main.name
    → record { frame = frame_on first (path_of below.frames); flat = record { copies = 0; design = design } }
    ≡ main_copy main
first_copy main below first design none name commands scope empty =
    ap (λ (fs : List Frame). record { frame = frame_on first (path_of fs); flat = record { copies = 0; design = design } }) none
    ∙ (ap (λ (n : List ℕ). record { frame = record { path = n ∷ []; scope = first.scope; commands = first.commands.now }; flat = record { copies = 0; design = design } }) name
    ∙ (ap (λ (s : Scope). record { frame = record { path = main.name ∷ []; scope = s; commands = first.commands.now }; flat = record { copies = 0; design = design } }) scope
    ∙ (ap (λ (cs : List Command). record { frame = record { path = main.name ∷ []; scope = record { copy = 0; bound = [] }; commands = cs }; flat = record { copies = 0; design = design } }) commands
    ∙ ap (λ (d : Circuit). record { frame = record { path = main.name ∷ []; scope = record { copy = 0; bound = [] }; commands = main.commands }; flat = record { copies = 0; design = d } }) empty)))

first_at : (d : ℕ) (models : List BlifModel) (main : BlifModel) (below : Stacked) (first : Open)
    (design : Circuit) → 65536 ≡ d → suc d ≡ most_depth → 0 < length models
    → main ≡ get_or models 0 main
    → below.frames ≡ [] → first.name.now ≡ main.name → first.commands.now ≡ main.commands
    → first.scope ≡ record { copy = 0; bound = [] } → design ≡ empty_design main.name
    → (run_rest models (rest_of first below 0 design) >>= λ (flat : Flat). Ok flat.design)
    ≡ flat_of models
first_at d [] main below first design deep most some is none name commands scope empty = absurd (omega arith)
first_at d (model ∷ models) main below first design deep most some is none name commands scope empty =
    let all : List BlifModel = model ∷ models in
    let flat : Flat = record { copies = 0; design = design } in
    ap (λ (r : Result Flat (At FlatKind)). r >>= λ (flat : Flat). Ok flat.design)
    (alone d all (frame_on first (path_of below.frames)) below.frames flat none
    (ap (λ (fs : List Frame). 65536 - length fs) none ∙ deep))
    ∙ (ap (λ (o : Opened). expand (suc d) all o >>= λ (flat : Flat). Ok flat.design)
    (first_copy main below first design none name commands scope empty ∙ ap main_copy is)
    ∙ ap (λ (n : ℕ). expand n all (main_copy model) >>= λ (flat : Flat). Ok flat.design) most)

depth_is : suc 65536 ≡ most_depth
unfolding most_depth
depth_is = refl

-- the frame of the main model is the whole
pub run-first : (models : List BlifModel) (main : BlifModel) (below : Stacked) (first : Open)
    (design : Circuit) → 0 < length models → main ≡ get_or models 0 main
    → below.frames ≡ [] → first.name.now ≡ main.name → first.commands.now ≡ main.commands
    → first.scope ≡ record { copy = 0; bound = [] } → design ≡ empty_design main.name
    → (run_rest models (rest_of first below 0 design) >>= λ (flat : Flat). Ok flat.design)
    ≡ flat_of models
run-first models main below first design some is none name commands scope empty =
    first_at 65536 models main below first design refl depth_is some is none name commands scope empty

-- the place of the first model's name
place_first : (model : BlifModel) (models : List BlifModel)
    → 0 ≡ place_of_name (names_of_models (model ∷ models)) model.name
place_first model models =
    let e : bytes_eq model.name model.name ≡ true = (bytes_eq-Decides model.name model.name).1 refl in
    let f : position_or_len (bytes_eq model.name) (model.name ∷ names_of_models models) ≡ 0 = rw e refl in
    sym f

-- what holds of the first frame
pub first_kept : (models : List BlifModel) (main : BlifModel) (below : Stacked) (first : Open)
    (design : Circuit) → IsBlif models → main ≡ get_or models 0 main
    → below ≡ record { frames = []; places = []; models = length models }
    → first.model ≡ 0
    → first.name.now ≡ main.name → first.commands.now ≡ main.commands
    → design ≡ empty_design main.name → IsRestKept models (rest_of first below 0 design)
first_kept [] main below first design blif is on place name commands empty =
    absurd (let h = blif.some in omega arith)
first_kept (model ∷ models) main below first design blif is on place name commands empty =
    subst (λ (s : Stacked). IsRestKept (model ∷ models) (rest_of first s 0 design)) (sym on) (record {
      depth = omega arith;
      copies = omega arith;
      count = refl;
      same = refl;
      known = ap (λ (k : ℕ). k ∷ []) (place ∙ (place_first model models
          ∙ ap (place_of_name (names_of_models (model ∷ models)))
          (sym (name ∙ ap (λ (m : BlifModel). m.name) is))));
      within = ((let h = blif.some in omega arith), tt);
      parts = (
        subst (λ (cs : List Command). All (λ c. IsPart c.part) cs)
            (sym (commands ∙ ap (λ (m : BlifModel). m.commands) is))
            (blif.parts 0 model (let h = blif.some in omega arith)),
        tt,
      );
      in_range = subst (λ (d : Circuit). IsInRange d) (sym empty) (empty_in_range main.name);
    })
