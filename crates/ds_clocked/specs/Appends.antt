-- What a window of a clocked run leaves on a sink.
use Rattle.std.specs.Prelude.{◌≡◌, ℕ, List, Option, Result}
use Rattle.ds_base.specs.Values.{Row}
use Rattle.ds_design.specs.Circuit.{Circuit}
use Rattle.ds_design.specs.Trace.{AreLines}
use Rattle.ds_outside.specs.Pen.{Puts, Writing}
use Rattle.ds_outside.specs.Written.{appended, AppendsPart}
use Rattle.ds_outside.specs.Writes.{Writes}

-- the lines from a turn and a row on were appended, and they end at this row
abbrev pub AppendsLines : Circuit → ℕ → Row → List Row → Option (List ℕ) → Option (List ℕ) → Row
    → Type 0
AppendsLines c first start vectors old new last =
    (lines : List ℕ) × AreLines c first start vectors lines last × (new ≡ appended old lines)

-- a first part of these lines was appended
abbrev pub AppendsLinesPart : Circuit → ℕ → Row → List Row → Option (List ℕ) → Option (List ℕ)
    → Type 0
AppendsLinesPart c first start vectors old new =
    (lines : List ℕ) × (last : Row) × AreLines c first start vectors lines last
    × AppendsPart old new lines

-- the lines from a turn and a row on, up to this row, were written, or a first part of them, and a
-- write failed
abbrev pub WritesLines : {T E : Type 0} → Result T E → Circuit → ℕ → Row → List Row → Row
    → Option (List ℕ) → Option (List ℕ) → ℕ → ℕ → Type 0
WritesLines result c first start vectors last old new before now =
    (lines : List ℕ) × AreLines c first start vectors lines last
    × Writes result old new before now lines

-- a pen went over the lines from a turn and a row on, up to this row
abbrev pub PutsLines : Writing → Writing → Circuit → ℕ → Row → List Row → Row → Type 0
PutsLines old new c first start vectors last =
    (lines : List ℕ) × AreLines c first start vectors lines last × Puts old new lines
