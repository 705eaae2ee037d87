-- Histories of one pass that take in those of another.
use Rattle.std.specs.Prelude.{◌≡◌, ℕ, ◌<◌, ◌≤◌, ◌++◌, true, false, length, vec_capacity}
use Rattle.std.specs.Prelude.{cond}
use Rattle.ds_fabric.specs.Indexed.{IsIndexed, IsOneEach, AreBelow}
use Rattle.ds_fabric.specs.declared.buffers.Buffers.{Buffers}
use Rattle.ds_fabric.specs.declared.histories.Histories.{Histories}

-- what the places of a pass need once it took in another
pub record IsGathering (many room : ℕ) (s other : Histories) : Type 0 where
  pub indexed : IsIndexed many room (length s.nodes.items) (s.nodes.items ++ other.nodes.items)
      s.places.items
  pub within : length (s.nodes.items ++ other.nodes.items) ≤ room
  pub below : AreBelow (s.nodes.items ++ other.nodes.items) many
  pub distinct : IsOneEach (s.nodes.items ++ other.nodes.items)
  pub roomy : room ≤ vec_capacity s.nodes
  pub few : length (s.nodes.items ++ other.nodes.items) < 4294967296

-- as much room as each of two has
pub record AreWidened (a b c : Buffers) : Type 0 where
  pub from : vec_capacity a.from ≤ vec_capacity c.from
  pub from_other : vec_capacity b.from ≤ vec_capacity c.from
  pub told : vec_capacity a.told ≤ vec_capacity c.told
  pub told_other : vec_capacity b.told ≤ vec_capacity c.told

-- the histories of both, with the one list of the other where it has one
pub record AreJoined (s other t : Histories) : Type 0 where
  pub nodes : t.nodes.items ≡ s.nodes.items ++ other.nodes.items
  pub nodes_room : vec_capacity s.nodes ≤ vec_capacity t.nodes
  pub apart : t.apart ≡ cond other.apart s.apart false
  pub kept : other.apart ≡ true → t.together ≡ s.together
  pub taken : other.apart ≡ false → t.together ≡ other.together
  pub buffers : AreWidened s.buffers other.buffers t.buffers
