-- The edges of each node, which stand one behind the other.
use Rattle.std.specs.Prelude.{◌≡◌, ℕ, ◌+◌, ◌<◌, ◌≤◌, List, length, slice_index}
use Rattle.ds_rule.specs.Run.{Run}
use Rattle.ds_rule.specs.Sound.{edge_at, read_words}

-- n is the first edge whose consumer is not below the node
pub record IsFrom (run : Run) (node n : ℕ) : Type 0 where
  pub near : n ≤ length run.edges
  pub below : (k : ℕ) → k < n → (edge_at run k).consumer < node
  pub above : (k : ℕ) → n ≤ k → k < length run.edges → node ≤ (edge_at run k).consumer

-- how many words each node reads at most
pub record AreReadWords (run : Run) (reads : List ℕ) : Type 0 where
  pub long : length reads ≡ run.nodes
  pub each : (l : ℕ) → l < run.nodes
      → slice_index reads l ≡ read_words run l (length run.edges)

-- the first edge of each node, and one more place
pub record AreFirstEdges (run : Run) (firsts : List ℕ) : Type 0 where
  pub long : length firsts ≡ run.nodes + 1
  pub each : (l : ℕ) → l ≤ run.nodes → IsFrom run l (slice_index firsts l)
