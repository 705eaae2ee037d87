-- The nodes of a handshake, and its numbers.
use Rattle.std.proofs.Common.{◌≡◌, ℕ, ◌+◌, ◌*◌, ◌<◌, ◌≤◌, List, length, get_or, sym, ◌∙◌, ap, subst, arith, All, Contains}
use Rattle.ds_base.proofs.ListLemmas.{get_or-self}
use Rattle.ds_latch.specs.Node.{Split, IsNode, number_of, nodes, opening, closing}
use Rattle.ds_latch.specs.declared.node.Node.{Node}
use Rattle.ds_latch.specs.Order.{IsDataEdge, IsRequired, after_producer, before_reuse, open_tokens, close_tokens}
use Rattle.ds_latch.proofs.OrderTokens.{edge_tokens, number_below}
use Rattle.ds_latch.proofs.OrdersRise.{edge_nodes}
use Rattle.ds_control.specs.Orders.{tokens_after}
use Rattle.ds_control.proofs.Required.{named, tokens_is}
use Rattle.ds_shake.specs.Expansion.{freeing_tokens}
use Rattle.ds_shake.specs.Handshakes.{AreHandshakes}
use Rattle.ds_shake.specs.Steps.{HasLowNumbers}
use Rattle.ds_shake.specs.declared.handshake.Handshake.{Handshake}

-- the nodes of a handshake, with the tokens of its orders
pub record Joins (s : Split) (h : Handshake) : Type 0 where
  pub producer : Node
  pub consumer : Node
  pub edge : IsDataEdge s producer consumer
  pub from : number_of producer ≡ h.producer
  pub to : number_of consumer ≡ h.consumer

module _ (s : Split) (all : List Handshake) (are : AreHandshakes s all) where
  pub joins : (h : Handshake) → Contains all h → Joins s h
  joins h (k, inside, is) =
      let (p, pe) = named h.producer in
      let (c, ce) = named h.consumer in
      record { producer = p; consumer = c; edge = (are.edges p c).1 (k, h, inside, is, (sym pe, sym ce)); from = pe; to = ce }

module _ (s : Split) (h : Handshake) (j : Joins s h) where
  pub below : (h.producer < nodes s) × (h.consumer < nodes s)
  below =
      let ends : IsNode s j.producer × IsNode s j.consumer = edge_nodes s j.producer j.consumer j.edge in
      let low : number_of j.producer < nodes s = number_below s j.producer ends.0 in
      let high : number_of j.consumer < nodes s = number_below s j.consumer ends.1 in
      let from : number_of j.producer ≡ h.producer = j.from in
      let to : number_of j.consumer ≡ h.consumer = j.to in
      (omega arith, omega arith)

  pub reading : tokens_after h.producer ≡ open_tokens j.producer
  reading = ap tokens_after (sym j.from) ∙ tokens_is j.producer

  pub freeing : freeing_tokens s.slack h ≡ close_tokens s j.producer
  freeing =
      let tokens : tokens_after h.producer ≡ open_tokens j.producer = reading in
      let both : open_tokens j.producer + close_tokens s j.producer ≡ s.slack + 1 = edge_tokens s j.producer in
      omega (tokens, both, arith)

  -- its orders by numbers
  pub reads : IsRequired s (2 * h.producer) (2 * h.consumer) (tokens_after h.producer)
  reads = subst (λ (u : ℕ). IsRequired s (2 * u) (2 * h.consumer) (tokens_after h.producer)) j.from
      (subst (λ (v : ℕ). IsRequired s (2 * number_of j.producer) (2 * v) (tokens_after h.producer)) j.to
      (subst (λ (t : ℕ). IsRequired s (opening j.producer) (opening j.consumer) t) (sym reading) (after_producer j.producer j.consumer j.edge)))

  pub frees : IsRequired s (2 * h.consumer + 1) (2 * h.producer) (freeing_tokens s.slack h)
  frees = subst (λ (u : ℕ). IsRequired s (2 * h.consumer + 1) (2 * u) (freeing_tokens s.slack h)) j.from
      (subst (λ (v : ℕ). IsRequired s (2 * v + 1) (2 * number_of j.producer) (freeing_tokens s.slack h)) j.to
      (subst (λ (t : ℕ). IsRequired s (closing j.consumer) (opening j.producer) t) (sym freeing) (before_reuse j.producer j.consumer j.edge)))

module _ (s : Split) (all : List Handshake) (are : AreHandshakes s all) (few : nodes s + 2 * length all ≤ 65536) where
  pub all_low : All HasLowNumbers all
  all_low k d inside =
      let h : Handshake = get_or all k d in
      let number : h.number ≡ k = are.numbered k inside d in
      let ends : (h.producer < nodes s) × (h.consumer < nodes s) = below s h (joins s all are h (k, inside, get_or-self all k d inside)) in
      record { number = omega (number, few, inside, arith); producer = omega (ends.0, few, arith); consumer = omega (ends.1, few, arith) }
