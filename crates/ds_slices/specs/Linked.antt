-- Words of tables and of registers, by their places: the registers behind the tables.
use Rattle.std.specs.Prelude.{◌≡◌, ◌≢◌, ℕ, ◌+◌, ◌<◌, List, ◌++◌, length, slice_index}
use Rattle.std.specs.Prelude.{slice_index_or, slice_set}
use Rattle.ds_base.specs.Values.{Row}
use Rattle.ds_cover.specs.Cover.{value_at}
use Rattle.ds_design.specs.Circuit.{Circuit, register_nets}
use Rattle.ds_design.specs.Levels.{table_nets}
use Rattle.ds_design.specs.declared.design.Gate.{Gate}
use Rattle.ds_design.specs.declared.design.Register.{Register}
use Rattle.ds_slices.specs.Picked.{IsTableWord}
use Rattle.ds_slices.specs.Turns.{IsShifted}

-- what the table or the register at a place drives
abbrev pub linked_net : Circuit → ℕ → ℕ
linked_net c k = slice_index (table_nets c ++ register_nets c) k

-- the word that it has, where these are the words of all nets
pub record IsLinkWord (c : Circuit) (start : Row) (words : List ℕ) (k word : ℕ) : Type 0 where
  pub table : (d : Gate) → k < length c.tables
      → IsTableWord (slice_index_or c.tables k d).table words word
  pub register : (i : ℕ) (d : Register) → i < length c.registers → k ≡ length c.tables + i
      → IsShifted (value_at start i)
      (slice_index words (slice_index_or c.registers i d).data_net) word

-- its net has been given that word
pub record SetsLink (c : Circuit) (start : Row) (k : ℕ) (old new : List ℕ) : Type 0 where
  pub word : ℕ
  pub sets : new ≡ slice_set old (linked_net c k) word
  pub is : IsLinkWord c start old k word

-- each table and each register has its word
abbrev pub AreLinked : Circuit → Row → List ℕ → Type 0
AreLinked c start words = (k : ℕ) → k < length c.tables + length c.registers
    → IsLinkWord c start words k (slice_index words (linked_net c k))

-- all other nets are as they were
abbrev pub LeavesSources : Circuit → List ℕ → List ℕ → Type 0
LeavesSources c old new = (net : ℕ)
    → ((k : ℕ) → k < length c.tables + length c.registers → linked_net c k ≢ net)
    → slice_index new net ≡ slice_index old net
