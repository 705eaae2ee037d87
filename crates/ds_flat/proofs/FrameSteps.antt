-- One step of the frames.
use Rattle.std.proofs.Common.{◌≡◌, ℕ, suc, ◌-◌, ◌<◌, List, [], ◌∷◌, length, None, Some}
use Rattle.std.proofs.Common.{Result, Ok, Err, refl, sym, ap, ◌∙◌, arith, subst}
use Rattle.ds_design.specs.declared.blif.UseText.{UseText}
use Rattle.ds_design.specs.declared.blif.Command.{Command}
use Rattle.ds_design.specs.declared.blif.BlifModel.{BlifModel}
use Rattle.ds_lines.specs.declared.at.At.{At}
use Rattle.ds_base.specs.declared.refusal.Refusal.{Refusal}
use Rattle.ds_base.specs.declared.refusal.Refusal.TheVariants.{Memory, Fault}
use Rattle.ds_base.specs.Refusal.{RefusesAs}
use Rattle.ds_flat.specs.Net.{Scope}
use Rattle.ds_flat.specs.Copies.{Flat, Frame, Opened, ◌>>=◌, take_all, take_command, take_part, use_in, open_use, expand}
use Rattle.ds_flat.specs.Run.{run_frames, after_take}
use Rattle.ds_flat.specs.Use.{after_use}
use Rattle.ds_flat.specs.declared.fault.FlatKind.{FlatKind}

pub bind-assoc : {A B C : Type 0} (r : Result A (At FlatKind)) (f : A → Result B (At FlatKind))
    (g : B → Result C (At FlatKind)) → ((r >>= f) >>= g) ≡ (r >>= λ x. f x >>= g)
bind-assoc (Ok x) f g = refl
bind-assoc (Err e) f g = refl

-- a fault stays the fault of what would follow
pub fault_bind : {A B : Type 0} (e : Refusal (At FlatKind)) (r : Result A (At FlatKind))
    (f : A → Result B (At FlatKind)) → RefusesAs e r → RefusesAs e (r >>= f)
fault_bind Memory r f is = tt
fault_bind {A} {B} (Fault fault) r f is = ap (λ (x : Result A (At FlatKind)). x >>= f) is

pub fault_same : {A : Type 0} (e : Refusal (At FlatKind)) (x y : Result A (At FlatKind)) → x ≡ y → RefusesAs e x
    → RefusesAs e y
fault_same {A} e x y same is = subst (λ (r : Result A (At FlatKind)). RefusesAs e r) same is

-- a frame without commands is left
pub run_frames-done : (models : List BlifModel) (frame : Frame) (frames : List Frame) (flat : Flat)
    → frame.commands ≡ [] → run_frames models (frame ∷ frames) flat ≡ run_frames models frames flat
unfolding run_frames
run_frames-done models frame frames flat none = rw none refl

-- the first command is taken, and then what is behind it
pub run_frames-take : (models : List BlifModel) (path : List (List ℕ)) (scope : Scope)
    (frames : List Frame) (command : Command) (commands : List Command) (flat : Flat)
    → run_frames models (record { path = path; scope = scope; commands = command ∷ commands }
    ∷ frames) flat
    ≡ after_take models (record { path = path; scope = scope; commands = commands } ∷ frames) flat
    command
unfolding run_frames
run_frames-take models path scope frames command commands flat =
    bind-assoc (take_command (expand (65536 - length frames) models) models path scope command
    (use_in command.part) flat)
    (take_all (expand (65536 - length frames) models) models path scope commands)
    (run_frames models frames)

-- what is opened, and then the frames below it
opened_first : (models : List BlifModel) (d : ℕ) (rest : List Frame) (r : Result Opened (At FlatKind))
    → 65536 - length rest ≡ d
    → ((r >>= expand (suc d) models) >>= run_frames models rest)
    ≡ (r >>= λ (o : Opened). run_frames models (o.frame ∷ rest) o.flat)
unfolding run_frames
opened_first models d rest (Ok o) same = rw same refl
opened_first models d rest (Err e) same = refl

-- a use puts its frame on top
pub after_take-use : (models : List BlifModel) (frame : Frame) (frames : List Frame) (flat : Flat)
    (command : Command) (call : UseText) → use_in command.part ≡ Some call → length frames < 65536
    → after_take models (frame ∷ frames) flat command
    ≡ after_use models (frame ∷ frames) flat command.line call
after_take-use models frame frames flat command call is few =
    let deep : 65536 - length frames ≡ suc (65535 - length frames) = omega arith in
    let deeper : 65536 - length (frame ∷ frames) ≡ 65535 - length frames = omega arith in
    let r : Result Opened (At FlatKind) = open_use models frame.path frame.scope command.line call flat in
    ap (λ u. take_command (expand (65536 - length frames) models) models frame.path frame.scope
    command u flat >>= run_frames models (frame ∷ frames)) is
    ∙ (ap (λ d. (r >>= expand d models) >>= run_frames models (frame ∷ frames)) deep
    ∙ opened_first models (65535 - length frames) (frame ∷ frames) r deeper)

-- another command is taken
pub taken_part : (models : List BlifModel) (frame : Frame) (frames : List Frame) (flat next : Flat)
    (command : Command) → use_in command.part ≡ None
    → take_part frame.scope command.line command.part flat ≡ Ok next
    → run_frames models (frame ∷ frames) next ≡ after_take models (frame ∷ frames) flat command
taken_part models frame frames flat next command none is =
    sym (ap (λ u. take_command (expand (65536 - length frames) models) models frame.path frame.scope
    command u flat >>= run_frames models (frame ∷ frames)) none
    ∙ ap (λ (r : Result Flat (At FlatKind)). r >>= run_frames models (frame ∷ frames)) is)

pub part_fault : (models : List BlifModel) (frame : Frame) (frames : List Frame) (flat : Flat)
    (command : Command) (e : Refusal (At FlatKind)) → use_in command.part ≡ None
    → RefusesAs e (take_part frame.scope command.line command.part flat)
    → RefusesAs e (after_take models (frame ∷ frames) flat command)
part_fault models frame frames flat command e none fault =
    rw none (fault_bind e (take_part frame.scope command.line command.part flat)
    (run_frames models (frame ∷ frames)) fault)
