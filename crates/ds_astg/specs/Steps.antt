-- What a function that reads may answer.
use Rattle.std.specs.Prelude.{◌≡◌, ℕ, Result, Ok, Err}
use Rattle.ds_astg.specs.declared.fault.AstgKind.{AstgKind}
use Rattle.ds_base.specs.declared.refusal.Refusal.{Refusal}
use Rattle.ds_base.specs.declared.refusal.Refusal.TheVariants.{Memory, Fault}
use Rattle.ds_lines.specs.declared.at.At.{At}

-- a refusal for this, unless memory was wanted
abbrev pub IsGraphRefusal : AstgKind → Result (Unit {0}) (Refusal AstgKind) → Type 0
IsGraphRefusal kind (Ok done) = ⊥
IsGraphRefusal kind (Err Memory) = Unit {0}
IsGraphRefusal kind (Err (Fault other)) = other ≡ kind

-- a refusal of a text is the fault of the line with this number, unless memory was wanted
abbrev pub IsLineFault : {A : Type 0} → ℕ → Result A AstgKind → Refusal (At AstgKind) → Type 0
IsLineFault line defined Memory = Unit {0}
IsLineFault line defined (Fault fault) = (fault.line ≡ line) × (defined ≡ Err fault.kind)
