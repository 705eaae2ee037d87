-- A use in the innermost copy.
use Rattle.std.specs.Prelude.{ℕ, List, [], ◌∷◌, Result, Ok}
use Rattle.ds_design.specs.declared.blif.BlifModel.{BlifModel}
use Rattle.ds_design.specs.declared.blif.UseText.{UseText}
use Rattle.ds_lines.specs.declared.at.At.{At}
use Rattle.ds_flat.specs.Copies.{Flat, Frame, Opened, ◌>>=◌, open_use}
use Rattle.ds_flat.specs.Run.{run_frames}
use Rattle.ds_flat.specs.declared.fault.FlatKind.{FlatKind}

-- a use is opened, and its copy is taken before what is left
abbrev pub after_use : List BlifModel → List Frame → Flat → ℕ → UseText → Result Flat (At FlatKind)
after_use models [] flat line call = Ok flat
after_use models (frame ∷ frames) flat line call =
    open_use models frame.path frame.scope line call flat
    >>= λ (o : Opened). run_frames models (o.frame ∷ frame ∷ frames) o.flat
