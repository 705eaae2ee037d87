-- The text of a clocked run, as bytes.
use Rattle.std.specs.Prelude.{◌≡◌, ℕ, ◌+◌, List, [], ◌∷◌, ◌++◌, map, length, codes, decimal}
use Rattle.std.specs.List.{flat_map, range_with_len}
use Rattle.ds_cover.specs.Cover.{values_at}
use Rattle.ds_design.specs.Circuit.{Circuit, data_nets, initial_row}
use Rattle.ds_design.specs.Valuation.{IsValuation}
use Rattle.ds_design.specs.Run.{IsRun}
use Rattle.ds_base.specs.Values.{Row}
use Rattle.ds_base.specs.declared.value.Value.{Value}
use Rattle.ds_base.specs.declared.value.Value.TheVariants.{Zero, One, Unknown}

-- a value as it is printed: `0`, `1` or `x`
abbrev pub value_text : Value → ℕ
value_text Zero = 48
value_text One = 49
value_text Unknown = 120

-- the values of a row; an empty row is `-`
abbrev pub values_text : Row → List ℕ
values_text [] = codes "-"
values_text (value ∷ values) = map value_text (value ∷ values)

-- the line of turn k: its number, the outputs, and the registers before the turn
abbrev pub trace_line : ℕ → Row → Row → List ℕ
trace_line k outputs registers = decimal k ++ codes " " ++ values_text outputs ++ codes " "
    ++ values_text registers ++ codes "\n"

-- the last line: the registers after the last turn
abbrev pub end_line : Row → List ℕ
end_line registers = codes "end " ++ values_text registers ++ codes "\n"

-- the lines of so many turns, numbered from a first one on
abbrev pub trace_lines : Circuit → ℕ → ℕ → (ℕ → Row) → (ℕ → Row) → List ℕ
trace_lines c first turns state nets =
    flat_map (λ k. trace_line (first + k) (values_at (nets k) c.outputs) (state k))
    (range_with_len 0 turns)

-- a run on these vectors, from a start row and a first turn on: its lines, and its last row
pub record IsTraceFrom (c : Circuit) (first : ℕ) (start : Row) (vectors : List Row) (lines : List ℕ)
    (last : Row) : Type 0 where
  pub state : ℕ → Row
  pub nets : ℕ → Row
  pub run : IsRun c start vectors state nets
  pub spelt : lines ≡ trace_lines c first (length vectors) state nets
  pub ends : last ≡ state (length vectors)

-- the trace of a netlist on vectors: the lines of all turns, and the line of the last row
pub record IsTrace (c : Circuit) (vectors : List Row) (text : List ℕ) : Type 0 where
  pub lines : List ℕ
  pub last : Row
  pub is_trace : IsTraceFrom c 0 (initial_row c) vectors lines last
  pub spelt : text ≡ lines ++ end_line last

-- the same turn by turn: from this turn and row on, the lines of these vectors, and the last row
abbrev pub AreLines : Circuit → ℕ → Row → List Row → List ℕ → Row → Type 0
AreLines c turn row [] lines last = (lines ≡ []) × (last ≡ row)
AreLines c turn row (vector ∷ vectors) lines last =
    (nets : Row) × (rest : List ℕ)
    × IsValuation c row vector nets
    × AreLines c (turn + 1) (values_at nets (data_nets c)) vectors rest last
    × (lines ≡ trace_line turn (values_at nets c.outputs) row ++ rest)
