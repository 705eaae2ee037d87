-- A use that is taken as a command.
use Rattle.std.proofs.Common.{◌≡◌, ℕ, ◌+◌, ◌-◌, ◌<◌, ◌≤◌, List, [], ◌∷◌, length, Option, None, Some, Bool, true, false, nat_lt, inl, inr, if◌then◌else◌}
use Rattle.std.proofs.Common.{Result, Ok, Err, refl, sym, ap, ◌∙◌, arith, subst}
use Rattle.std.proofs.lemmas.Bool.{cases_Bool}
use Rattle.std.proofs.lemmas.Bool.Decides.{Decides-ltb}
use Rattle.std.specs.List.{list_any}
use Rattle.std.specs.Str.{bytes_eq}
use Rattle.ds_design.specs.declared.blif.UseText.{UseText}
use Rattle.ds_design.specs.declared.blif.Part.{Part}
use Rattle.ds_design.specs.declared.blif.Part.TheVariants.{Inputs, Outputs, Clock, Table, Latch, Subckt}
use Rattle.ds_design.specs.declared.blif.Command.{Command}
use Rattle.ds_design.specs.declared.blif.BlifModel.{BlifModel}
use Rattle.ds_design.specs.Source.{IsPart, IsUseText}
use Rattle.ds_design.specs.Circuit.{Circuit}
use Rattle.ds_lines.specs.declared.at.At.{At}
use Rattle.ds_flat.specs.Net.{Scope}
use Rattle.ds_flat.specs.Copies.{Flat, Frame, Opened, ◌>>=◌, take_command, use_in, open_use, open_model, expand}
use Rattle.ds_flat.specs.Copies.{model_named}
use Rattle.ds_flat.specs.Run.{Rest, run_frames, after_take}
use Rattle.ds_flat.specs.Use.{after_use}
use Rattle.ds_flat.proofs.FrameSteps.{after_take-use}
use Rattle.ds_flat.specs.declared.fault.FlatKind.{FlatKind}

-- nothing is opened
abbrev IsErr : Result Opened (At FlatKind) → Type 0
IsErr (Ok o) = ⊥
IsErr (Err fault) = Unit {0}

if_err : (b c : Bool) (x y z : Result Opened (At FlatKind)) → IsErr x → IsErr z → c ≡ false
    → IsErr (if b then x else (if c then y else z))
if_err true c x y z first last no_more = first
if_err false c x y z first last no_more =
    subst (λ (d : Bool). IsErr (if d then y else z)) (sym no_more) last

open_err : (path : List (List ℕ)) (scope : Scope) (line : ℕ) (call : UseText) (flat : Flat)
    (found : Option BlifModel) → nat_lt flat.copies 65536 ≡ false
    → IsErr (open_model path scope line call flat found)
open_err path scope line call flat None full = tt
open_err path scope line call flat (Some model) full =
    if_err (list_any (bytes_eq call.model) path) (nat_lt flat.copies 65536) _ _ _ tt tt full

no_opened : (r : Result Opened (At FlatKind)) (f h : Opened → Result Flat (At FlatKind))
    (g : Flat → Result Flat (At FlatKind)) → IsErr r → ((r >>= f) >>= g) ≡ (r >>= h)
no_opened (Ok o) f h g none = absurd none
no_opened (Err fault) f h g none = refl

-- a use as a command is the use
pub after_take-any : (models : List BlifModel) (frames : List Frame) (flat : Flat)
    (command : Command) (call : UseText) → use_in command.part ≡ Some call
    → length frames ≤ flat.copies + 1 → flat.copies ≤ 65536
    → after_take models frames flat command ≡ after_use models frames flat command.line call
after_take-any models [] flat command call is deep most = refl
after_take-any models (frame ∷ frames) flat command call is deep most =
    elim (cases_Bool (nat_lt flat.copies 65536)) [
      | inl a ↦ after_take-use models frame frames flat command call is
          (let h : flat.copies < 65536 = (Decides-ltb flat.copies 65536).0 a in omega arith)
      | inr a ↦
          ap (λ u. take_command (expand (65536 - length frames) models) models frame.path
          frame.scope command u flat >>= run_frames models (frame ∷ frames)) is
          ∙ no_opened (open_use models frame.path frame.scope command.line call flat)
          (expand (65536 - length frames) models)
          (λ (o : Opened). run_frames models (o.frame ∷ frame ∷ frames) o.flat)
          (run_frames models (frame ∷ frames))
          (open_err frame.path frame.scope command.line call flat
          (model_named models call.model) a)
    ]

-- a well-formed command that is a use has no formal twice
pub use_fine : (part : Part) (call : UseText) → use_in part ≡ Some call → IsPart part
    → IsUseText call
use_fine (Subckt given) call is fine =
    subst (λ (u : UseText). IsUseText u) (let e : given ≡ call = cc in e) fine
use_fine (Inputs names) call is fine = absurd (cc)
use_fine (Outputs names) call is fine = absurd (cc)
use_fine (Clock names) call is fine = absurd (cc)
use_fine (Table text) call is fine = absurd (cc)
use_fine (Latch text) call is fine = absurd (cc)

-- no commands are left
pub none_left : (commands : List Command) → length commands ≡ 0 → commands ≡ []
none_left [] none = refl
none_left (command ∷ commands) none = absurd (omega arith)

-- what a rest comes to where nothing is left to take
abbrev pub ended : Rest → Circuit → Result Flat (At FlatKind)
ended rest design = Ok (record { copies = rest.flat.copies; design = design })
