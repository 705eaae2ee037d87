-- What a call answers that may also want memory.
use Rattle.std.specs.Prelude.{◌≡◌, Option, Some, Result, Ok, Err}
use Rattle.ds_base.specs.declared.refusal.Refusal.{Refusal}
use Rattle.ds_base.specs.declared.refusal.Refusal.TheVariants.{Fault, Memory}

-- a refusal tells the fault that is there, unless memory was wanted
abbrev pub TellsFault : {F : Type 0} → Refusal F → Option F → Type 0
TellsFault Memory fault = Unit {0}
TellsFault (Fault told) fault = fault ≡ Some told

-- a refusal tells the fault that is meant, unless memory was wanted
abbrev pub RefusesAs : {F A : Type 0} → Refusal F → Result A F → Type 0
RefusesAs Memory meant = Unit {0}
RefusesAs (Fault told) meant = meant ≡ Err told

-- an answer is what is meant, unless memory was wanted
abbrev pub IsMeant : {F A : Type 0} → Result A (Refusal F) → Result A F → Type 0
IsMeant (Ok value) meant = meant ≡ Ok value
IsMeant (Err refusal) meant = RefusesAs refusal meant
