-- What lines stand for as vectors, where there may be so many of them.
use Rattle.std.specs.Prelude.{ℕ, ◌+◌, not, List, [], ◌∷◌, Option, None, Some, Result, Ok, Err}
use Rattle.std.specs.Prelude.{nat_lt, if◌then◌else◌}
use Rattle.ds_lines.specs.First.{unless_fault, fault_or}
use Rattle.ds_base.specs.Limit.{most_of}
use Rattle.ds_design.specs.Rows.{Rows}
use Rattle.ds_lines.specs.Line.{Line}
use Rattle.ds_rows.specs.Vector.{has_bits, has_width, rows_of_lines}
use Rattle.ds_lines.specs.declared.at.At.{At}
use Rattle.ds_rows.specs.declared.fault.VectorKind.{VectorKind}
use Rattle.ds_rows.specs.declared.fault.VectorKind.TheVariants as vector
use Rattle.ds_stream.specs.declared.fault.StreamKind.{StreamKind}
use Rattle.ds_stream.specs.declared.fault.StreamKind.TheVariants.{TooMany, BadWidth, BadBit}

-- what is wrong with a line's words, where there may be so many vectors, and so many stand before
-- the line
abbrev pub fault_under : ℕ → ℕ → ℕ → List (List ℕ) → Option StreamKind
fault_under most width seen words = if not (nat_lt seen most) then Some (TooMany most)
    else (if not (has_width width words) then Some BadWidth
    else (if not (has_bits width words) then Some BadBit else None))

-- the first fault of lines, where there may be so many vectors, and so many stand before them
abbrev pub first_fault_under : ℕ → ℕ → ℕ → List Line → Option (At StreamKind)
first_fault_under most width seen [] = None
first_fault_under most width seen (line ∷ lines) =
    fault_or (fault_under most width seen line.words) line.number
    (first_fault_under most width (seen + 1) lines)

-- what lines stand for as vectors of a width, where there may be so many: their rows, or their
-- first fault
abbrev pub vectors_under : ℕ → ℕ → List Line → Result Rows (At StreamKind)
vectors_under most width lines = unless_fault (first_fault_under most width 0 lines)
    (record { width = width; rows = rows_of_lines width lines })

-- what is wrong with a line of vectors that are read whole, the limit by its number
abbrev pub told_kind : VectorKind → StreamKind
told_kind (vector.TooMany limit) = TooMany (most_of limit)
told_kind vector.BadWidth = BadWidth
told_kind vector.BadBit = BadBit

-- what lines stand for that are read whole, so told
abbrev pub told_whole : Result Rows (At VectorKind) → Result Rows (At StreamKind)
told_whole (Ok rows) = Ok rows
told_whole (Err fault) = Err (record { line = fault.line; kind = told_kind fault.kind })
