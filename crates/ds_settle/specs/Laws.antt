-- What follows of a cone.
use Rattle.std.specs.Prelude.{◌≡◌, ℕ, List, ◌++◌, All, Contains}
use Rattle.ds_base.specs.Values.{Row}
use Rattle.ds_cover.specs.Cover.{value_at, values_at}
use Rattle.ds_design.specs.Accepted.{IsAccepted}
use Rattle.ds_design.specs.Circuit.{Circuit, columns, register_nets, used}
use Rattle.ds_design.specs.Valuation.{IsValuation}
use Rattle.ds_settle.specs.Cone.{IsCone, IsPartSettled, Parts, ReachesSome}

-- nets that agree with a valuation at the sources of a cone agree with it in the whole cone, once
-- its tables are settled
abbrev pub ConeSettles : Type 0
ConeSettles = (c : Circuit) → IsAccepted c → (these : List ℕ) (cone : Parts) → IsCone c these cone
    → (state vector valuation : Row) → IsValuation c state vector valuation
    → (old new : Row) → All (λ net. value_at old net ≡ value_at valuation net) cone.sources
    → IsPartSettled c cone old new
    → ((net : ℕ) → ReachesSome c these net → value_at new net ≡ value_at valuation net)
    × (values_at new these ≡ values_at valuation these)

-- the sources of what is used are columns and nets of registers
abbrev pub SourcesAreKnown : Type 0
SourcesAreKnown = (c : Circuit) → IsAccepted c → (these : List ℕ) (cone : Parts)
    → IsCone c these cone
    → All (Contains (used c)) these → All (Contains (columns c ++ register_nets c)) cone.sources
