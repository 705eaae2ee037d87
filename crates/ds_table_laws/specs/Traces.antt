-- There are traces.
use Rattle.std.specs.Prelude.{◌≡◌, ℕ, List, length, All}
use Rattle.ds_base.specs.Values.{Row}
use Rattle.ds_design.specs.Accepted.{IsAccepted}
use Rattle.ds_design.specs.Circuit.{Circuit, columns}
use Rattle.ds_design.specs.InRange.{IsInRange}
use Rattle.ds_design.specs.Trace.{IsTrace}

-- an accepted design has a trace on all vectors as wide as its columns
abbrev pub TracesExist : Type 0
TracesExist = (c : Circuit) → IsInRange c → IsAccepted c → (vectors : List Row)
    → All (λ vector. length vector ≡ length (columns c)) vectors
    → (text : List ℕ) × IsTrace c vectors text
