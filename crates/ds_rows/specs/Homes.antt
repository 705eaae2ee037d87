-- Where registers stand.
use Rattle.std.specs.Prelude.{◌≡◌, ◌⊎◌, ℕ, ◌<◌, List, length, All, slice_index, slice_index_or}
use Rattle.ds_latch.specs.Node.{Split, members}
use Rattle.ds_latch.specs.Headline.{StandsAt}
use Rattle.ds_rows.specs.declared.homes.Home.{Home}

-- the home of a register is where it stands
abbrev pub IsHome : Split → ℕ → Home → Type 0
IsHome s r home = StandsAt s r home.cluster home.place

-- a register stands in this cluster, at this place of these registers
abbrev pub IsIn : List ℕ → ℕ → ℕ → Home → Type 0
IsIn registers cluster r home = (home.cluster ≡ cluster) × (home.place < length registers)
    × (slice_index registers home.place ≡ r)

-- where a register was placed or left
abbrev pub IsPlacedOrKept : List ℕ → ℕ → ℕ → Home → Home → Type 0
IsPlacedOrKept registers cluster r old new = (new ≡ old) ⊎ IsIn registers cluster r new

-- where no home is told
abbrev pub no_home : Home
no_home = record { cluster = 0; place = 0 }

-- these registers are placed as those of a cluster
abbrev pub ArePlaced : List ℕ → ℕ → List Home → Type 0
ArePlaced registers cluster homes =
    All (λ r. IsIn registers cluster r (slice_index_or homes r no_home)) registers

-- the registers of a cluster have their homes
abbrev pub AreHoused : Split → List Home → ℕ → Type 0
AreHoused s homes i = All (λ r. IsHome s r (slice_index_or homes r no_home)) (members s i)

-- all registers have their homes
pub record AreHomes (s : Split) (homes : List Home) : Type 0 where
  pub one_each : length homes ≡ length s.circuit.registers
  pub each : (r : ℕ) → r < length s.circuit.registers → IsHome s r (slice_index_or homes r no_home)
