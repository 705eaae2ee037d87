-- Registers that drive nets of one copy and one name.
use Rattle.std.specs.Prelude.{◌≡◌, ◌≢◌, ℕ, ◌<◌, ◌^◌, Bool, List, [], Option, None, Some}
use Rattle.std.specs.Prelude.{◌==◌, ◌&&◌, slice_index_or}
use Rattle.std.specs.Str.{bytes_eq}
use Rattle.ds_design.specs.declared.design.Net.{Net}

-- stands for a net that is not there
abbrev pub missing_net : Net
missing_net = record { copy = 0; name = [] }

-- the net that a register drives
abbrev pub driven_net : List Net → ℕ → Net
driven_net nets r = slice_index_or nets r missing_net

-- a register drives this net
abbrev pub drives : List Net → Net → ℕ → Bool
drives nets net r =
    (net.copy == (driven_net nets r).copy) && bytes_eq net.name (driven_net nets r).name

-- the last of the first so many registers that drives a net like this one
abbrev pub IsLatest : List Net → ℕ → Net → Option ℕ → Type 0
IsLatest nets count net None = (r : ℕ) → r < count → driven_net nets r ≢ net
IsLatest nets count net (Some latest) = (latest < count) × (driven_net nets latest ≡ net)
    × ((r : ℕ) → latest < r → r < count → driven_net nets r ≢ net)

-- the copies of the nets have numbers of 32 bits
abbrev pub HaveShortCopies : List Net → Type 0
HaveShortCopies nets = (r : ℕ) → (driven_net nets r).copy < 2 ^ 32
