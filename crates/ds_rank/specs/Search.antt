-- Where a search along the edges stands.
use Rattle.std.specs.Prelude.{◌≡◌, ◌≢◌, ◌⊎◌, ◌<◌, ◌≤◌, ◌+◌, ◌-◌, ◌^◌, ℕ, List, [], length}
use Rattle.std.specs.Prelude.{slice_index, sum, sum_by, zero, suc}
use Rattle.ds_base.specs.Greatest.{greatest}
use Rattle.ds_rank.specs.declared.edge.Edge.{Edge}
use Rattle.ds_rank.specs.Order.{HasEdge, IsDistinct, source_at, target_at}

-- the chains of edges, the edge to look at next, the colors, the ranks, and the path
pub record State : Type 0 where
  pub link : List ℕ
  pub next : List ℕ
  pub color : List ℕ
  pub ranks : List ℕ
  pub path : List ℕ

-- the ends of the edges are nodes
abbrev pub EndsAreNodes : ℕ → List Edge → Type 0
EndsAreNodes count edges = (k : ℕ) → k < length edges
    → (source_at edges k < count) × (target_at edges k < count)

-- each of the first edges leads on to the last one before it with its target
pub record IsLinkedTo (count : ℕ) (edges : List Edge) (m : ℕ) (heads link : List ℕ) : Type 0 where
  pub size : length link ≡ m
  pub back : (k : ℕ) → k < m → slice_index link k ≤ k
  pub same : (k : ℕ) → k < m → 0 < slice_index link k
      → target_at edges (slice_index link k - 1) ≡ target_at edges k
  pub none : (k j : ℕ) → k < m → slice_index link k ≤ j → j < k
      → target_at edges j ≢ target_at edges k
  pub head_inside : (v : ℕ) → v < count → slice_index heads v ≤ m
  pub head_own : (v : ℕ) → v < count → 0 < slice_index heads v
      → target_at edges (slice_index heads v - 1) ≡ v
  pub head_none : (v j : ℕ) → v < count → slice_index heads v ≤ j → j < m
      → target_at edges j ≢ v

-- 1 for the color of a node that is done
abbrev pub one_if_done : ℕ → ℕ
one_if_done zero = 1
one_if_done (suc color) = 0

-- 1 for the color of a node on the path
abbrev pub one_if_on : ℕ → ℕ
one_if_on zero = 0
one_if_on (suc zero) = 1
one_if_on (suc (suc color)) = 0

-- what the search has found out; `bound` keeps the ranks small
pub record IsSearch (edges : List Edge) (floors : List ℕ) (s : State) : Type 0 where
  pub sizes : (length s.link ≡ length edges) × (length s.next ≡ length floors)
      × (length s.color ≡ length floors) × (length s.ranks ≡ length floors)
  pub back : (k : ℕ) → k < length edges → slice_index s.link k ≤ k
  pub same : (k : ℕ) → k < length edges → 0 < slice_index s.link k
      → target_at edges (slice_index s.link k - 1) ≡ target_at edges k
  pub none : (k j : ℕ) → k < length edges → slice_index s.link k ≤ j → j < k
      → target_at edges j ≢ target_at edges k
  pub inside : (v : ℕ) → v < length floors → slice_index s.next v ≤ length edges
  pub own : (v : ℕ) → v < length floors → 0 < slice_index s.next v
      → target_at edges (slice_index s.next v - 1) ≡ v
  pub past : (v j : ℕ) → v < length floors → slice_index s.next v ≤ j → j < length edges
      → target_at edges j ≡ v → (slice_index s.color (source_at edges j) ≡ 0)
      × (slice_index s.ranks (source_at edges j) + 1 ≤ slice_index s.ranks v)
  pub floor : (v : ℕ) → v < length floors → slice_index floors v ≤ slice_index s.ranks v
  pub tight : (v : ℕ) → v < length floors → (slice_index s.ranks v ≡ slice_index floors v)
      ⊎ ((j : ℕ) × (j < length edges) × (target_at edges j ≡ v)
      × (slice_index s.color (source_at edges j) ≡ 0)
      × (slice_index s.ranks v ≡ slice_index s.ranks (source_at edges j) + 1))
  pub done : (v : ℕ) → v < length floors → slice_index s.color v ≡ 0 → slice_index s.next v ≡ 0
  pub range : (v : ℕ) → v < length floors → slice_index s.color v ≤ 2
  pub on_path : (i : ℕ) → i < length s.path → (slice_index s.path i < length floors)
      × (slice_index s.color (slice_index s.path i) ≡ 1)
  pub chain : (i : ℕ) → i + 1 < length s.path
      → HasEdge edges (slice_index s.path (i + 1)) (slice_index s.path i)
  pub distinct : IsDistinct s.path
  pub listed : (v : ℕ) → v < length floors → slice_index s.color v ≡ 1
      → (i : ℕ) × (i < length s.path) × (slice_index s.path i ≡ v)
  pub few : (v : ℕ) → v < length floors
      → slice_index s.ranks v ≤ greatest floors + sum_by one_if_done s.color
  pub few_done : (v : ℕ) → v < length floors → slice_index s.color v ≡ 0
      → slice_index s.ranks v + 1 ≤ greatest floors + sum_by one_if_done s.color
  pub on_count : length s.path ≡ sum_by one_if_on s.color

-- each floor leaves room for as many more as there are nodes
abbrev pub HasRoom : List ℕ → Type 0
HasRoom floors = (v : ℕ) → v < length floors → slice_index floors v + length floors < 2 ^ 64

-- the node stands at the end of the path
abbrev pub IsLast : List ℕ → ℕ → Type 0
IsLast path node = (0 < length path) × (slice_index path (length path - 1) ≡ node)

-- a step keeps what is found out, leaves less to do, and takes no color back
pub record IsStep (edges : List Edge) (floors : List ℕ) (old new : State) : Type 0 where
  pub kept : IsSearch edges floors new
  pub less : sum new.next + sum new.color < sum old.next + sum old.color
  pub lower : (v : ℕ) → slice_index new.color v ≤ slice_index old.color v

-- an edge leads from each node of the path to the one before it, and none stands twice
abbrev pub IsPath : List Edge → List ℕ → Type 0
IsPath edges path = ((i : ℕ) → i + 1 < length path
    → HasEdge edges (slice_index path (i + 1)) (slice_index path i)) × IsDistinct path

-- an edge leads from a node of the path to its end
abbrev pub ClosesAt : List Edge → List ℕ → ℕ → Type 0
ClosesAt edges path source = ((i : ℕ) × (i < length path) × (slice_index path i ≡ source))
    × HasEdge edges source (slice_index path (length path - 1))

-- a search from a new node has come to its end
pub record IsVisit (edges : List Edge) (floors : List ℕ) (root : ℕ) (old new : State) : Type 0 where
  pub kept : IsSearch edges floors new
  pub empty : new.path ≡ []
  pub done : slice_index new.color root ≡ 0
  pub lower : (v : ℕ) → slice_index new.color v ≤ slice_index old.color v

-- no node is met yet
pub record IsSearchBegun (edges : List Edge) (floors : List ℕ) (s : State) : Type 0 where
  pub kept : IsSearch edges floors s
  pub empty : s.path ≡ []
