-- Steps one after another, up to the first fault.
use Rattle.std.specs.Prelude.{List, [], ◌∷◌, Result, Ok, Err}

-- goes on, unless there is a fault
abbrev pub then_do : {A B E : Type 0} → Result A E → (A → Result B E) → Result B E
then_do (Ok a) next = next a
then_do (Err e) next = Err e

-- a step for each of these, in their order
abbrev pub all_of : {X S E : Type 0} → (X → S → Result S E) → List X → S → Result S E
all_of step [] s = Ok s
all_of step (x ∷ xs) s = then_do (step x s) (all_of step xs)
