-- Buses as the code keeps them.
use Rattle.std.specs.Prelude.{◌≡◌, ◌≢◌, ◌⊎◌, ℕ, ◌<◌, List, [], ◌∷◌, ◌++◌, length, slice_index_or}
use Rattle.ds_design.specs.declared.design.Net.{Net}
use Rattle.ds_split.specs.Cluster.{no_net}
use Rattle.ds_split.specs.declared.bus.Bus.{Bus}

-- the net that a bus stands for
abbrev pub net_of_bus : Bus → Net
net_of_bus bus = record { copy = bus.copy; name = bus.name.now }

-- a net stands at this place
abbrev pub IsNetFound : List Net → Net → List Net → ℕ → Type 0
IsNetFound old net new place = (place < length old) × (new ≡ old)
    × (slice_index_or old place no_net ≡ net)

-- a net was not there, and stands behind the last now
abbrev pub IsNetAdded : List Net → Net → List Net → ℕ → Type 0
IsNetAdded old net new place = (place ≡ length old) × (new ≡ old ++ net ∷ [])
    × ((k : ℕ) → k < length old → slice_index_or old k no_net ≢ net)

-- a net has its place, and is added where it was not there
abbrev pub IsPlaced : List Net → Net → List Net → ℕ → Type 0
IsPlaced old net new place = IsNetFound old net new place ⊎ IsNetAdded old net new place
