-- What the flight of an event asks and changes of the room for it.
use Rattle.std.specs.Prelude.{◌≡◌, ◌+◌, ◌≤◌, ℕ, length, vec_capacity}
use Rattle.ds_rule.specs.Run.{Run}
use Rattle.ds_rule.specs.Sound.{read_words}
use Rattle.ds_fabric.specs.HistoryList.{stride_of, list_room, end_of_turn}
use Rattle.ds_fabric.specs.declared.buffers.Buffers.{Buffers}
use Rattle.ds_fabric.specs.declared.history.History.{History}
use Rattle.ds_fabric.specs.declared.histories.Histories.{Histories}

-- as much room as before
pub record HasSameRoom (a b : Buffers) : Type 0 where
  pub from : vec_capacity b.from ≡ vec_capacity a.from
  pub told : vec_capacity b.told ≡ vec_capacity a.told

-- there is room for the rows that the node reads, and for what a firing of it tells
pub record HasRoomFor (run : Run) (node : ℕ) (b : Buffers) : Type 0 where
  pub from : read_words run node (length run.edges) ≤ vec_capacity b.from
  pub told : stride_of run node ≤ vec_capacity b.told

-- there is room for what the node's next event tells, in its list too
pub record HasRoomToFire (run : Run) (s : Histories) (h : History) : Type 0 where
  pub stride : h.stride ≡ stride_of run h.node
  pub inside : h.first + h.stride ≤ h.step
  pub room : end_of_turn run h ≤ list_room s h
  pub buffers : HasRoomFor run h.node s.buffers
