-- An edge's two orders have one token more than the slack together, so an open consumer keeps what it read.
use Rattle.std.proofs.Common.{◌≡◌, ◌≢◌, ℕ, ◌+◌, ◌<◌, ◌≤◌, arith}
use Rattle.ds_marked.specs.Graph.{Graph, IsEnabled, IsConsistent}
use Rattle.ds_latch.specs.Node.{Split, opening, closing, place_of}
use Rattle.ds_latch.specs.declared.node.Node.{Node}
use Rattle.ds_latch.specs.Order.{IsDataEdge, after_producer, before_reuse, open_tokens, close_tokens}
use Rattle.ds_latch.specs.Firing.{opening_read}
use Rattle.ds_latch.specs.Plan.{IsController}
use Rattle.ds_latch.proofs.OrderTokens.{order_ready, edge_tokens, read_tokens, places_differ}

module _ (s : Split) (g : Graph) (controller : IsController s g) (limit : ℕ) (count : ℕ → ℕ) (consistent : IsConsistent g limit count) (p c : Node) (edge : IsDataEdge s p c) (is_open : count (opening c) ≡ count (closing c) + 1) (enabled : IsEnabled g limit count (opening p)) where
  after : count (opening c) ≤ count (opening p) + open_tokens p
  after = controller.meets count consistent.agrees (opening p) (opening c) (open_tokens p) (after_producer p c edge)

  before : count (opening p) + 1 ≤ count (closing c) + close_tokens s p
  before = order_ready s g controller count consistent.agrees limit (opening p) enabled (closing c) (close_tokens s p) (before_reuse p c edge)

  near : count (opening p) + 1 ≤ opening_read p (count (closing c)) + s.slack
  near =
      let a : open_tokens p + close_tokens s p ≡ s.slack + 1 = edge_tokens s p in
      let b : opening_read p (count (closing c)) + open_tokens p ≡ count (closing c) + 1 = read_tokens p (count (closing c)) in
      omega (arith, before)

  above : opening_read p (count (closing c)) < count (opening p) + 1
  above =
      let b : opening_read p (count (closing c)) + open_tokens p ≡ count (closing c) + 1 = read_tokens p (count (closing c)) in
      omega (arith, after, is_open)

  pub stability : place_of s (count (opening p) + 1) ≢ place_of s (opening_read p (count (closing c)))
  stability = places_differ s (opening_read p (count (closing c))) (count (opening p) + 1) above near

  pub no_opening : ¬ (s.slack ≡ 0)
  no_opening none = absurd (omega (arith, near, above))

pub stability_without_slack : (s : Split) (g : Graph) → IsController s g → s.slack ≡ 0 → (limit : ℕ) (count : ℕ → ℕ) → IsConsistent g limit count → (p c : Node) → IsDataEdge s p c → count (opening c) ≡ count (closing c) + 1 → ¬ IsEnabled g limit count (opening p)
stability_without_slack s g controller none limit count consistent p c edge is_open enabled = no_opening s g controller limit count consistent p c edge is_open enabled none
