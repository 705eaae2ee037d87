-- The data edges of a split design, each with its number.
use Rattle.std.specs.Prelude.{◌≡◌, ◌⊎◌, ◌↔◌, ℕ, ◌<◌, List, length, AllPairs, Any}
use Rattle.std.specs.List.{HoldsAt}
use Rattle.ds_latch.specs.Node.{Split, number_of}
use Rattle.ds_latch.specs.declared.node.Node.{Node}
use Rattle.ds_latch.specs.Order.{IsDataEdge}
use Rattle.ds_shake.specs.declared.handshake.Handshake.{Handshake}

-- an edge stands before another: by producer, and then by consumer
abbrev pub HandshakeBefore : Handshake → Handshake → Type 0
HandshakeBefore a b =
    (a.producer < b.producer) ⊎ ((a.producer ≡ b.producer) × (a.consumer < b.consumer))

-- these are the data edges, by the numbers of their nodes, each with the number of its place, by
-- producer and then by consumer
pub record AreHandshakes (s : Split) (all : List Handshake) : Type 0 where
  pub edges : (p c : Node) → IsDataEdge s p c
      ↔ Any (λ h. (h.producer ≡ number_of p) × (h.consumer ≡ number_of c)) all
  pub sorted : AllPairs HandshakeBefore all
  pub numbered : (k : ℕ) → k < length all → HoldsAt (λ h. h.number ≡ k) all k
