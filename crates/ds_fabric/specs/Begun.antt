-- The histories of a pass before anything has fired, and the room of a pass that is dealt.
use Rattle.std.specs.Prelude.{◌≡◌, ℕ, ◌+◌, ◌*◌, ◌<◌, ◌≤◌, [], ◌∷◌, true, false, zero, suc}
use Rattle.std.specs.Prelude.{length, slice_index, vec_capacity}
use Rattle.ds_rule.specs.Run.{Run}
use Rattle.ds_fabric.specs.Flight.{HasRoomFor}
use Rattle.ds_fabric.specs.HistoryList.{stride_of}
use Rattle.ds_fabric.specs.Indexed.{IsIndexed}
use Rattle.ds_fabric.specs.Showing.{Blank}
use Rattle.ds_fabric.specs.declared.history.History.{History}
use Rattle.ds_fabric.specs.declared.histories.Histories.{Histories}

-- where in a turn of all nodes the words of a node begin
abbrev pub first_word_of : Run → ℕ → ℕ
first_word_of run zero = 0
first_word_of run (suc l) = first_word_of run l + stride_of run l

-- the histories of all nodes, with one list that has room for all their firings
pub record AreUnfired (run : Run) (s : Histories) : Type 0 where
  pub blank : Blank run run.nodes (first_word_of run run.nodes) s.nodes.items
  pub nodes_room : run.nodes ≤ vec_capacity s.nodes
  pub places_long : length s.places.items ≡ run.nodes
  pub places : (i : ℕ) → i < run.nodes → slice_index s.places.items i ≡ i + 1
  pub apart : s.apart ≡ false
  pub room : run.limit * first_word_of run run.nodes ≤ vec_capacity s.together
  pub buffers : (l : ℕ) → l < run.nodes → HasRoomFor run l s.buffers

-- no history, and room for that of the node and for so many
pub record IsRoomFor (run : Run) (node room : ℕ) (s : Histories) : Type 0 where
  pub nodes : s.nodes.items ≡ []
  pub nodes_room : room ≤ vec_capacity s.nodes
  pub places : (h : History) → h.node ≡ node
      → IsIndexed run.nodes room 1 (h ∷ []) s.places.items
  pub apart : s.apart ≡ true
  pub buffers : HasRoomFor run node s.buffers
