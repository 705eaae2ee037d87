-- Turns of a clocked run in words, bit k of each for turn k.
use Rattle.std.specs.Prelude.{◌≡◌, ℕ, zero, suc, ◌+◌, ◌<◌, List, length, map}
use Rattle.std.specs.Int.{bit_at}
use Rattle.ds_base.specs.Values.{AreKnown, Row}
use Rattle.ds_base.specs.declared.value.Value.{Value}
use Rattle.ds_cover.specs.Cover.{value_at, values_at}
use Rattle.ds_cover.specs.Kept.{bit_value}
use Rattle.ds_cover.specs.Packed.{one_bit}
use Rattle.ds_design.specs.Circuit.{Circuit, data_nets}
use Rattle.ds_design.specs.Run.{row_at}
use Rattle.ds_design.specs.Valuation.{IsValuation}

-- the nets in a turn: the bits of their words
abbrev pub turn_row : List ℕ → ℕ → Row
turn_row words k = map (λ word. bit_value (bit_at word k)) words

-- the registers before a turn: those at the start, or what their data nets had in the turn before
abbrev pub registers_before : Circuit → Row → List ℕ → ℕ → Row
registers_before c start words zero = start
registers_before c start words (suc k) = values_at (turn_row words k) (data_nets c)

-- in each of up to 64 turns, from one on, the nets have the one valuation of the registers before
-- the turn and its vector
pub record AreTurns (c : Circuit) (start : Row) (vectors : List Row) (from : ℕ) (words : List ℕ) :
    Type 0 where
  pub one_each : length words ≡ length c.nets
  pub valued : (k : ℕ) → k < 64 → from + k < length vectors
      → IsValuation c (registers_before c start words k) (row_at vectors (from + k))
      (turn_row words k)

-- no vector of these turns has an unknown value
abbrev pub AreKnownTurns : List Row → ℕ → Type 0
AreKnownTurns vectors from = (k : ℕ) → k < 64 → from + k < length vectors
    → AreKnown (row_at vectors (from + k))

-- the word of a column: a bit for each vector
abbrev pub IsColumnWord : List Row → ℕ → ℕ → ℕ → Type 0
IsColumnWord vectors from column word = (k : ℕ) → k < 64 → from + k < length vectors
    → bit_at word k ≡ one_bit (value_at (row_at vectors (from + k)) column)

-- the word of a register: its data net's, one turn later, behind the value before the first turn
pub record IsShifted (first : Value) (fed word : ℕ) : Type 0 where
  pub begins : bit_value (bit_at word 0) ≡ first
  pub later : (k : ℕ) → suc k < 64 → bit_at word (suc k) ≡ bit_at fed k
