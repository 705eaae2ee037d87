-- What the opening of a node that settles reads.
use Rattle.std.specs.Prelude.{◌≡◌, ◌⊎◌, ℕ, ◌<◌, List, length, All, slice_index, slice_index_or}
use Rattle.ds_latch.specs.Node.{Split, IsNode, number_of, nets_of}
use Rattle.ds_latch.specs.declared.node.Node.{Node}
use Rattle.ds_latch.specs.Order.{IsSource}
use Rattle.ds_split.specs.Cones.{AreCones}
use Rattle.ds_fire.specs.declared.feeds.Feeds.{Feeds}
use Rattle.ds_fire.specs.declared.homes.NetHome.{NetHome}

-- a net is the one of this node at this place of its row
abbrev pub IsNetOfNode : List ℕ → ℕ → ℕ → NetHome → Type 0
IsNetOfNode bits node net home = (home.node ≡ node) × (home.bit < length bits)
    × (slice_index bits home.bit ≡ net)

-- where a net was placed or left
abbrev pub IsSourceNetPlacedOrKept : List ℕ → ℕ → ℕ → NetHome → NetHome → Type 0
IsSourceNetPlacedOrKept bits node net old new = (new ≡ old) ⊎ IsNetOfNode bits node net new

-- where no home is told
abbrev pub no_source_home : NetHome
no_source_home = record { node = 0; bit = 0 }

-- the home of a net
abbrev pub home_of : List NetHome → ℕ → NetHome
home_of homes net = slice_index_or homes net no_source_home

-- these nets are placed as those of a node
abbrev pub AreSourceNetsPlaced : List ℕ → ℕ → List NetHome → Type 0
AreSourceNetsPlaced bits node homes = All (λ net. IsNetOfNode bits node net (home_of homes net))
    bits

-- the home of a net is a source that is there, with a place where it has this net
abbrev pub IsSourceHome : Split → ℕ → NetHome → Type 0
IsSourceHome s net home = (p : Node) × IsSource p × IsNode s p
    × IsNetOfNode (nets_of s p) (number_of p) net home

-- the nets of a source have their homes
abbrev pub AreSourceNetsHoused : Split → List NetHome → Node → Type 0
AreSourceNetsHoused s homes p = All (λ net. IsSourceHome s net (home_of homes net)) (nets_of s p)

-- all nets of the sources have their homes
pub record AreSourceHomes (s : Split) (homes : List NetHome) : Type 0 where
  pub one_each : length homes ≡ length s.circuit.nets
  pub each : (p : Node) → IsSource p → IsNode s p → AreSourceNetsHoused s homes p

-- the cone of each node that settles, and the homes of the nets of the sources
pub record AreFeeds (s : Split) (feeds : Feeds) : Type 0 where
  pub cones : AreCones s feeds.cones.items
  pub homes : AreSourceHomes s feeds.homes.items
