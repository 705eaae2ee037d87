-- The row of a line.
use Rattle.std.specs.Prelude.{◌≡◌, ◌<◌, ℕ, true, List, [], Option, None, Some, Result, Ok, Err}
use Rattle.std.specs.Prelude.{length}
use Rattle.ds_base.specs.Values.{Row}
use Rattle.ds_lines.specs.Line.{is_some, trimmed}
use Rattle.ds_rows.specs.Vector.{row_of}
use Rattle.ds_stream.specs.Alike.{IsBegun}
use Rattle.ds_stream.specs.Bounded.{fault_under}
use Rattle.ds_stream.specs.declared.fault.NextFault.{NextFault}
use Rattle.ds_stream.specs.declared.fault.NextFault.TheVariants.{Vector, TooLong, Read, Memory}

-- bytes that neither begin with a blank nor end with a blank or `\`
pub record IsCut (line : List ℕ) : Type 0 where
  pub begun : IsBegun line
  pub some : 0 < length line
  pub whole : trimmed line ≡ line

-- the row of words, or their fault, unless there are none or memory was wanted
abbrev pub GivesRow : ℕ → ℕ → ℕ → ℕ → List (List ℕ) → Result (Option Row) NextFault → Type 0
GivesRow most width seen first words (Ok None) = words ≡ []
GivesRow most width seen first words (Ok (Some row)) = (is_some words ≡ true)
    × (fault_under most width seen words ≡ None) × (row ≡ row_of width words)
GivesRow most width seen first words (Err Memory) = Unit {0}
GivesRow most width seen first words (Err Read) = ⊥
GivesRow most width seen first words (Err TooLong) = ⊥
GivesRow most width seen first words (Err (Vector fault)) = (is_some words ≡ true)
    × (fault.line ≡ first) × (fault_under most width seen words ≡ Some fault.kind)
