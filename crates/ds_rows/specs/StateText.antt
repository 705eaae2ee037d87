-- The text of a state: what each register has stored, and how many firings there were.
use Rattle.std.specs.Prelude.{◌≡◌, ℕ, ◌*◌, ◌<◌, List, ◌++◌, length}
use Rattle.std.specs.List.{flat_map, range_with_len}
use Rattle.ds_base.specs.Values.{Row}
use Rattle.ds_latch.specs.Node.{Split}
use Rattle.ds_latch.specs.Plan.{Planned}
use Rattle.ds_latch.specs.Firing.{State, first_state, FiresAll}
use Rattle.ds_latch.specs.Headline.{StandsAt, values_stored}
use Rattle.ds_rows.specs.Log.{fired_line, stored_text}
use Rattle.ds_rows.specs.Nets.{register_of}

-- a register has stored these values: those at its place in the rows that its cluster's slave has
-- stored
abbrev pub HasStored : Split → State → ℕ → Row → Type 0
HasStored s now r values =
    (cluster : ℕ) × (place : ℕ) × StandsAt s r cluster place
    × (values ≡ values_stored now cluster place)

-- of the state that these firings lead to: a line for each register, and the line of the firings;
-- each event may fire once a vector
pub record IsStateText (planned : Planned) (vectors : List Row) (events text : List ℕ) :
    Type 0 where
  pub now : State
  pub fires : FiresAll planned.split vectors (first_state planned.split) events now
  pub values : ℕ → Row
  pub stored : (r : ℕ) → r < length planned.split.circuit.registers
      → HasStored planned.split now r (values r)
  pub spelt : text
      ≡ flat_map (λ r. stored_text (register_of planned.split.circuit r) (values r))
      (range_with_len 0 (length planned.split.circuit.registers))
      ++ fired_line (length events) (length planned.graph.events * length vectors)
