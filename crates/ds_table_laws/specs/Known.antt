-- Known values give known values.
use Rattle.std.specs.Prelude.{◌≡◌, ℕ, ◌<◌, ◌≤◌, ◌^◌, ◌==◌, All, Bool, false, List, length}
use Rattle.std.specs.List.{list_any}
use Rattle.ds_base.specs.Values.{AreKnown, Row}
use Rattle.ds_design.specs.Accepted.{IsAccepted}
use Rattle.ds_design.specs.Circuit.{Circuit, initial_row}
use Rattle.ds_design.specs.Run.{IsRun}
use Rattle.ds_design.specs.Trace.{IsTrace}

-- where no start value and no value of a vector is unknown, no value of the run is
abbrev pub KnownRunsAreKnown : Type 0
KnownRunsAreKnown = (c : Circuit) → IsAccepted c → (start : Row) (vectors : List Row)
    → AreKnown start → All AreKnown vectors
    → (state nets : ℕ → Row) → IsRun c start vectors state nets
    → (k : ℕ) → (k ≤ length vectors → AreKnown (state k)) × (k < length vectors → AreKnown (nets k))

-- whether a byte is `x`, as an unknown value is printed
abbrev pub is_x : ℕ → Bool
is_x byte = byte == 120

-- where no register starts at an unknown value and no value of a vector is unknown, the trace has
-- no `x`
abbrev pub KnownTracesAreKnown : Type 0
KnownTracesAreKnown = (c : Circuit) → IsAccepted c → (vectors : List Row)
    → length vectors < 2 ^ 64 → AreKnown (initial_row c) → All AreKnown vectors
    → (text : List ℕ) → IsTrace c vectors text → list_any is_x text ≡ false
