-- What the nodes keep before the first firing.
use Rattle.std.specs.Prelude.{◌≡◌, ℕ, ◌*◌, ◌+◌, ◌≤◌, List, [], length, All, slice_index_or, ◌==◌}
use Rattle.std.specs.Prelude.{if◌then◌else◌}
use Rattle.ds_base.specs.Values.{Row}
use Rattle.ds_latch.specs.Node.{Split, IsNode, number_of, nodes, nets_of, zeros}
use Rattle.ds_latch.specs.declared.node.Node.{Node}
use Rattle.ds_latch.specs.Firing.{first_row}
use Rattle.ds_fire.specs.Snapshot.{rows_of}
use Rattle.ds_fire.specs.StoredRows.{Stored}

-- the first row of the node with this number at a place
abbrev pub HasFirstRow : Split → ℕ → ℕ → Row → Type 0
HasFirstRow s number place row = (n : Node) → IsNode s n → number_of n ≡ number
    → row ≡ (if place == 0 then first_row s n else zeros s n)

-- zeros for the node with this number
abbrev pub AreZeros : Split → ℕ → Row → Type 0
AreZeros s number row = (n : Node) → IsNode s n → number_of n ≡ number → row ≡ zeros s n

-- the first row of the node with this number
abbrev pub IsFirstRow : Split → ℕ → Row → Type 0
IsFirstRow s number row = (n : Node) → IsNode s n → number_of n ≡ number → row ≡ first_row s n

-- the first rows of all nodes
pub record AreFirstRows (s : Split) (rows : List Row) : Type 0 where
  pub one_each : length rows ≡ nodes s * (s.slack + 1)
  pub each : (n : Node) → IsNode s n → (place : ℕ) → place ≤ s.slack
      → rows_of s rows n place ≡ (if place == 0 then first_row s n else zeros s n)

-- nothing is stored, and there is room for so many rows of each node
pub record AreEmpty (s : Split) (limit : ℕ) (stored : List Stored) : Type 0 where
  pub one_each : length stored ≡ nodes s
  pub none : All (λ h. h.values ≡ []) stored
  pub room : (n : Node) → IsNode s n → (d : Stored)
      → (slice_index_or stored (number_of n) d).room ≡ limit * length (nets_of s n)
