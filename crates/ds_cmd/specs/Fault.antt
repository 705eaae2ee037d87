-- What a call gives that may also want memory.
use Rattle.std.specs.Prelude.{Option, Some, None, Result, Ok, Err, ◌≡◌, ◌⊎◌, MatchResult}
use Rattle.ds_cmd.specs.declared.job.Job.{Job}
use Rattle.ds_cmd.specs.declared.fault.UsageFault.{UsageFault}
use Rattle.ds_cmd.specs.declared.fault.UsageFault.TheVariants.{Line, Memory}
use Rattle.ds_cmd.specs.declared.fault.UsageFault.TheVariants as usage

-- what follows from a value; without one the words are no command line
abbrev pub with_value : {A : Type 0} → Option A → (A → Result Job UsageFault)
    → Result Job UsageFault
with_value None next = Err Line
with_value (Some value) next = next value

-- what follows from a number; without one it is out of form or range
abbrev pub with_number : {A : Type 0} → Option A → (A → Result Job UsageFault)
    → Result Job UsageFault
with_number None next = Err usage.Number
with_number (Some number) next = next number

-- what follows from a mode, as how registers are put into clusters; without it there is no such one
abbrev pub with_mode : {A : Type 0} → Option A → (A → Result Job UsageFault)
    → Result Job UsageFault
with_mode None next = Err usage.Mode
with_mode (Some mode) next = next mode

-- the answer is what is meant, or memory was wanted and not found
abbrev pub Gives : Result Job UsageFault → Result Job UsageFault → Type 0
Gives meant answer = MatchResult answer (λ job. meant ≡ Ok job)
    (λ why. (why ≡ Memory) ⊎ (meant ≡ Err why))
