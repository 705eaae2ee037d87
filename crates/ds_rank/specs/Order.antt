-- Orders along edges: ranks, and cycles.
use Rattle.std.specs.Prelude.{◌≡◌, ◌≢◌, ◌⊎◌, ◌<◌, ◌≤◌, ◌+◌, ℕ, List, [], ◌∷◌, length, slice_index}
use Rattle.std.specs.List.{All, slice_index_or}
use Rattle.ds_rank.specs.declared.edge.Edge.{Edge}

-- stands for an edge past the end of a list
abbrev pub no_edge : Edge
no_edge = record { source = 0; target = 0 }

-- where edge k begins
abbrev pub source_at : List Edge → ℕ → ℕ
source_at edges k = (slice_index_or edges k no_edge).source

-- where edge k ends
abbrev pub target_at : List Edge → ℕ → ℕ
target_at edges k = (slice_index_or edges k no_edge).target

-- an edge leads from u to v
abbrev pub HasEdge : List Edge → ℕ → ℕ → Type 0
HasEdge edges u v = (k : ℕ) × (k < length edges) × (source_at edges k ≡ u) × (target_at edges k ≡ v)

-- each rank is at least the floor and above the ranks of what comes before, and no greater than
-- that asks
pub record IsRanks (R : ℕ → ℕ → Type 0) (count : ℕ) (floor : ℕ → ℕ) (ranks : List ℕ) : Type 0 where
  pub size : length ranks ≡ count
  pub least : (v : ℕ) → v < count → floor v ≤ slice_index ranks v
  pub above : (u v : ℕ) → R u v → slice_index ranks u + 1 ≤ slice_index ranks v
  pub tight : (v : ℕ) → v < count → (slice_index ranks v ≡ floor v)
      ⊎ ((u : ℕ) × R u v × (slice_index ranks v ≡ slice_index ranks u + 1))

-- R leads from a through the nodes of the list to b
abbrev pub IsWalk : (ℕ → ℕ → Type 0) → ℕ → List ℕ → ℕ → Type 0
IsWalk R a [] b = R a b
IsWalk R a (x ∷ xs) b = R a x × IsWalk R x xs b

-- no node stands twice
abbrev pub IsDistinct : List ℕ → Type 0
IsDistinct xs = (i j : ℕ) → i < j → j < length xs → slice_index xs i ≢ slice_index xs j

-- R leads from each node to the next and from the last to the first; no node stands twice, and the
-- first is the least
abbrev pub IsCycle : (ℕ → ℕ → Type 0) → List ℕ → Type 0
IsCycle R [] = ⊥
IsCycle R (x ∷ xs) = IsWalk R x xs x × IsDistinct (x ∷ xs) × All (λ y. x ≤ y) xs
