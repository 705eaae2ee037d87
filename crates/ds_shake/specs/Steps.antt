-- What the steps of an expansion give.
use Rattle.std.specs.Prelude.{◌≡◌, ◌⊎◌, ℕ, ◌<◌, ◌≤◌, List, length, map}
use Rattle.std.specs.List.{HoldsAt}
use Rattle.ds_latch.specs.declared.latches.Edge.{Edge}
use Rattle.ds_shake.specs.declared.handshake.Handshake.{Handshake}
use Rattle.ds_shake.specs.declared.edge_ends.EdgeEnds.{EdgeEnds}

-- the ends of an edge
abbrev pub ends_of_edge : Edge → EdgeEnds
ends_of_edge edge = record { producer = edge.producer; consumer = edge.consumer }

-- ends stand before others, or are the same
abbrev pub PairBefore : EdgeEnds → EdgeEnds → Type 0
PairBefore a b = (a.producer < b.producer) ⊎ ((a.producer ≡ b.producer) × (a.consumer ≤ b.consumer))

-- the ends that a numbered edge has
abbrev pub ends_of : Handshake → EdgeEnds
ends_of h = record { producer = h.producer; consumer = h.consumer }

-- the same ends, each with the number of its place
pub record AreNumberedEnds (pairs : List EdgeEnds) (all : List Handshake) : Type 0 where
  pub ends : map ends_of all ≡ pairs
  pub numbered : (k : ℕ) → k < length all → HoldsAt (λ h. h.number ≡ k) all k

-- its numbers are below those of the greatest graph
pub record HasLowNumbers (h : Handshake) : Type 0 where
  pub number : h.number ≤ 65536
  pub producer : h.producer ≤ 65536
  pub consumer : h.consumer ≤ 65536
