-- A search for edges, consumer by consumer.
use Rattle.std.specs.Prelude.{◌≡◌, ◌≢◌, ◌⊎◌, ℕ, ◌+◌, ◌<◌, ◌≤◌, List, [], ◌∷◌, ◌++◌, length}
use Rattle.std.specs.Prelude.{AllPairs, Contains, slice_index, slice_set}
use Rattle.ds_design.specs.Circuit.{Circuit}
use Rattle.ds_design.specs.Levels.{table_nets}
use Rattle.ds_latch.specs.declared.latches.Edge.{Edge}
use Rattle.ds_settle.specs.Cone.{ReachesSome}

-- the producer of each net, one more than its number; for each producer the last consumer that it
-- was met for; and the edges
pub record Found : Type 0 where
  pub producers : List ℕ
  pub seen : List ℕ
  pub edges : List Edge

-- an edge by the numbers of its nodes
abbrev pub edge_of : ℕ → ℕ → Edge
edge_of producer consumer = record { producer = producer; consumer = consumer }

-- with an edge at the end
abbrev pub with_edge : Found → ℕ → ℕ → Found
with_edge f producer consumer = record {
  producers = f.producers;
  seen = slice_set f.seen producer consumer;
  edges = f.edges ++ edge_of producer consumer ∷ [];
}

-- all edges are into consumers before this one
pub record IsBefore (consumer : ℕ) (f : Found) : Type 0 where
  pub some : 0 < consumer
  pub labels : (net : ℕ) → slice_index f.producers net ≤ length f.seen
  pub consumers : (e : Edge) → Contains f.edges e → e.consumer < consumer
  pub seen : (m : ℕ) → slice_index f.seen m < consumer
  pub once : AllPairs (λ a b. a ≢ b) f.edges

-- edges into this consumer are being found: those of the producers that were met for it
pub record IsAt (consumer : ℕ) (f : Found) : Type 0 where
  pub some : 0 < consumer
  pub labels : (net : ℕ) → slice_index f.producers net ≤ length f.seen
  pub consumers : (e : Edge) → Contains f.edges e → e.consumer ≤ consumer
  pub seen : (m : ℕ) → slice_index f.seen m ≤ consumer
  pub met : (m : ℕ) → slice_index f.seen m ≡ consumer → Contains f.edges (edge_of m consumer)
  pub unmet : (m : ℕ) → Contains f.edges (edge_of m consumer) → slice_index f.seen m ≡ consumer
  pub once : AllPairs (λ a b. a ≢ b) f.edges

-- an edge is that from the producer of a net
abbrev pub IsEdgeFrom : List ℕ → ℕ → ℕ → Edge → Type 0
IsEdgeFrom producers consumer net e = (m : ℕ) × (slice_index producers net ≡ m + 1)
    × (e ≡ edge_of m consumer)

-- beside the edges that were there, the search has those from the producers of the nets that are
-- meant, and no others
pub record HasMet (consumer : ℕ) (old : Found) (Means : ℕ → Type 0) (new : Found) : Type 0 where
  pub at : IsAt consumer new
  pub same_producers : new.producers ≡ old.producers
  pub same_room : length new.seen ≡ length old.seen
  pub kept : (e : Edge) → Contains old.edges e → Contains new.edges e
  pub found : (net m : ℕ) → Means net → slice_index old.producers net ≡ m + 1
      → Contains new.edges (edge_of m consumer)
  pub only : (e : Edge) → Contains new.edges e
      → Contains old.edges e ⊎ ((net : ℕ) × Means net × IsEdgeFrom old.producers consumer net e)

-- the nets that are one of these or reach one, and that no table drives
abbrev pub IsCause : Circuit → List ℕ → ℕ → Type 0
IsCause c these net = ReachesSome c these net × ¬ Contains (table_nets c) net
