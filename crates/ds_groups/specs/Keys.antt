-- Keys of nets, each once.
use Rattle.std.specs.Prelude.{◌≡◌, ◌≢◌, ◌⊎◌, ℕ, ◌<◌, List, [], ◌∷◌, ◌++◌, length, slice_index_or}
use Rattle.ds_design.specs.declared.design.Net.{Net}
use Rattle.ds_groups.specs.Latest.{missing_net}
use Rattle.ds_groups.specs.declared.key.Key.{Key}

-- the net that a key stands for
abbrev pub net_of_key : Key → Net
net_of_key key = record { copy = key.copy; name = key.name.now }

-- a net stands at this place
abbrev pub IsNetAt : List Net → Net → ℕ → Type 0
IsNetAt nets net place = (place < length nets) × (slice_index_or nets place missing_net ≡ net)

-- a net is not there
abbrev pub IsNoNet : List Net → Net → Type 0
IsNoNet nets net = (k : ℕ) → k < length nets → slice_index_or nets k missing_net ≢ net

-- a net was not there, and stands behind the last now
abbrev pub IsNetBehind : List Net → Net → List Net → ℕ → Type 0
IsNetBehind old net new place = (place ≡ length old) × (new ≡ old ++ net ∷ []) × IsNoNet old net

-- a net has its place, and is added where it was not there
abbrev pub IsKeyPlaced : List Net → Net → List Net → ℕ → Type 0
IsKeyPlaced old net new place =
    ((new ≡ old) × IsNetAt old net place) ⊎ IsNetBehind old net new place
