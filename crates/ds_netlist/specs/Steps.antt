-- What the steps of the checks find.
use Rattle.std.specs.Prelude.{◌≡◌, ℕ, ◌<◌, ◌≤◌, Bool, false, List, [], ◌∷◌, length, slice_index}
use Rattle.std.specs.Prelude.{count_by, Option, Some, None, ◌==◌, if◌then◌else◌}
use Rattle.ds_design.specs.Circuit.{Circuit}
use Rattle.ds_netlist.specs.Fault.{first_some, is_in, mixed_edges, driven_clock, clock_as_data}
use Rattle.ds_netlist.specs.Fault.{multiply_driven, undriven}
use Rattle.ds_netlist.specs.declared.fault.NetFault.{NetFault}

-- the first of some names
abbrev pub first_listed : List ℕ → Option ℕ
first_listed [] = None
first_listed (name ∷ names) = Some name

-- whether a net is the clock
abbrev pub is_clock : Option ℕ → ℕ → Bool
is_clock None net = false
is_clock (Some clock) net = clock == net

-- the clock, where it stands in a list
abbrev pub clock_among : List ℕ → Option ℕ → Option ℕ
clock_among nets None = None
clock_among nets (Some clock) = if is_in nets clock then Some clock else None

-- how often a net stands in a list
abbrev pub times_driven : ℕ → List ℕ → ℕ
times_driven net nets = count_by (λ other. other == net) nets

-- for each net below a count how often it stands in a list
pub record AreTimes (count : ℕ) (nets counts : List ℕ) : Type 0 where
  pub size : length counts ≡ count
  pub each : (net : ℕ) → net < count → slice_index counts net ≡ times_driven net nets

-- the first place with two or more
pub record IsFirstTwice (counts : List ℕ) (k : ℕ) : Type 0 where
  pub inside : k < length counts
  pub twice : 2 ≤ slice_index counts k
  pub before : (j : ℕ) → j < k → slice_index counts j < 2

-- the first place that is used and not driven
pub record IsFirstFree (uses counts : List ℕ) (k : ℕ) : Type 0 where
  pub inside : k < length counts
  pub used : 0 < slice_index uses k
  pub free : slice_index counts k ≡ 0
  pub before : (j : ℕ) → j < k → 0 < slice_index uses j → 0 < slice_index counts j

-- the first fault of the drivers
abbrev pub driver_fault : Circuit → Option NetFault
driver_fault c = first_some (multiply_driven c ∷ undriven c ∷ [])

-- the first fault where there are no two control names
abbrev pub later_fault : Circuit → Option NetFault
later_fault c = first_some (mixed_edges c.registers ∷ driven_clock c ∷ clock_as_data c
    ∷ multiply_driven c ∷ undriven c ∷ [])
