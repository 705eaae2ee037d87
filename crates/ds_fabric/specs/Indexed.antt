-- Histories, and for each node the place of its history among them.
use Rattle.std.specs.Prelude.{◌≡◌, ◌≢◌, ℕ, ◌+◌, ◌-◌, ◌<◌, ◌≤◌, List, length, cond, ◌==◌}
use Rattle.std.specs.Prelude.{slice_index}
use mathlib.Core.Option.{some}
use lib.ListN.{get_elem?}
use Rattle.ds_fabric.specs.declared.history.History.{History}

-- the history of the node is number i
abbrev pub IsHistoryAt : List History → ℕ → ℕ → Type 0
IsHistoryAt nodes i node = (h : History) × (get_elem? nodes i ≡ some h) × (h.node ≡ node)

-- each node has one history at most
abbrev pub IsOneEach : List History → Type 0
IsOneEach nodes = (i j : ℕ) (h k : History) → get_elem? nodes i ≡ some h
    → get_elem? nodes j ≡ some k → h.node ≡ k.node → i ≡ j

-- the places of the first n histories, of `many` nodes; there are none where there is room for one
-- history alone
pub record IsIndexed (many room n : ℕ) (nodes : List History) (places : List ℕ) : Type 0 where
  pub small : (many < 4294967296) × (room < 4294967296)
  pub few : n ≤ room
  pub one : length places ≡ 0 → room ≤ 1
  pub long : 0 < length places → length places ≡ many
  pub placed : (i : ℕ) (h : History) → i < n → get_elem? nodes i ≡ some h → 0 < length places
      → slice_index places h.node ≡ i + 1
  pub back : (l : ℕ) → 0 < slice_index places l
      → (slice_index places l ≤ n) × IsHistoryAt nodes (slice_index places l - 1) l

-- where a history came from that stands at j, once the one at `at` was taken out and the last came
-- to its place
abbrev pub came : ℕ → ℕ → ℕ → ℕ
came at last j = cond (j == at) last j

-- one history was taken out
pub record IsWithout (old new : List History) (at : ℕ) : Type 0 where
  pub shorter : length new + 1 ≡ length old
  pub from : (j : ℕ) (h : History) → get_elem? new j ≡ some h
      → get_elem? old (came at (length new) j) ≡ some h
  pub stay : (j : ℕ) (h : History) → get_elem? old j ≡ some h → j ≢ at → j < length new
      → get_elem? new j ≡ some h
  pub last : (h : History) → get_elem? old (length new) ≡ some h → at < length new
      → get_elem? new at ≡ some h

-- each history is that of a node below this number
abbrev pub AreBelow : List History → ℕ → Type 0
AreBelow nodes many = (i : ℕ) (h : History) → get_elem? nodes i ≡ some h → h.node < many

-- the history of the node was taken out
pub record IsTakenOut (old new : List History) (at node : ℕ) : Type 0 where
  pub distinct : IsOneEach old
  pub without : IsWithout old new at
  pub history : History
  pub there : get_elem? old at ≡ some history
  pub node_is : history.node ≡ node
