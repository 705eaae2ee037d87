-- Without slack, what transparent latches show is what the nodes hold.
use Rattle.std.proofs.Common.{◌≡◌, ℕ, suc, zero, ◌+◌, ◌<◌, ◌≤◌, ◌⊎◌, inl, inr, List, length, refl, arith, ap, sym, ◌∙◌, subst, add-one}
use Rattle.std.proofs.lemmas.Bool.{cases_eq}
use Rattle.ds_base.specs.Values.{Row}
use Rattle.ds_cover.specs.Cover.{values_at}
use Rattle.ds_design.specs.Run.{IsRun}
use Rattle.ds_marked.specs.Graph.{Graph, IsLegal}
use Rattle.ds_latch.specs.Node.{Split, IsNode, opening, closing, nets_of}
use Rattle.ds_latch.specs.declared.node.Node.{Node}
use Rattle.ds_latch.specs.declared.node.Node.TheVariants.{In, Out, Master, Slave}
use Rattle.ds_latch.specs.Order.{IsSource, IsDataEdge, to_master, to_out, to_slave, opens_first, closes_before_next, after_producer, before_reuse, open_tokens, close_tokens}
use Rattle.ds_latch.specs.Plan.{IsController}
use Rattle.ds_latch.specs.Firing.{State, held, first_state, opening_read, FiresAll, IsSettled}
use Rattle.ds_latch.specs.Transparent.{IsOpen, Makes, IsShowing}
use Rattle.ds_latch.proofs.OrderTokens.{edge_tokens, read_tokens}
use Rattle.ds_latch.proofs.Flow.{V, InStep, Settles, settles_out, settles_master, settled_same, settled_where, steps_kept}
use Rattle.ds_latch.proofs.TurnValues.{run_settles, master_value}

module _ (s : Split) (g : Graph) (controller : IsController s g) (none : s.slack ≡ 0) (vectors : List Row) (state nets : ℕ → Row) (run : IsRun s.circuit s.initial vectors state nets) (now : State) (good : InStep s g controller vectors state nets run now) where
  abbrev W : Node → ℕ → Row
  W n k = V s g controller vectors state nets run n k

  holds : (n : Node) → IsNode s n → held s now n ≡ W n (now.count (opening n))
  holds n is_node = good.step.kept n is_node (now.count (opening n)) (omega arith) (omega arith)

  cases_open : (n : Node) → IsNode s n → (now.count (opening n) ≡ now.count (closing n)) ⊎ IsOpen now n
  cases_open n is_node =
      let low : now.count (closing n) ≤ now.count (opening n) + 0 = controller.meets now.count good.agrees (opening n) (closing n) 0 (opens_first n is_node) in
      let high : now.count (opening n) ≤ now.count (closing n) + 1 = controller.meets now.count good.agrees (closing n) (opening n) 1 (closes_before_next n is_node) in
      elim (cases_eq (now.count (opening n)) (now.count (closing n))) [ inl e ↦ inl e | inr ne ↦ inr (omega arith) ]

  -- a producer of an open node has opened as often as the node read
  opened : (p c : Node) → IsDataEdge s p c → IsOpen now c → now.count (opening p) ≡ opening_read p (now.count (closing c))
  opened p c edge is_open =
      let low : now.count (opening c) ≤ now.count (opening p) + open_tokens p = controller.meets now.count good.agrees (opening p) (opening c) (open_tokens p) (after_producer p c edge) in
      let high : now.count (opening p) ≤ now.count (closing c) + close_tokens s p = controller.meets now.count good.agrees (closing c) (opening p) (close_tokens s p) (before_reuse p c edge) in
      let both : open_tokens p + close_tokens s p ≡ s.slack + 1 = edge_tokens s p in
      let read : opening_read p (now.count (closing c)) + open_tokens p ≡ now.count (closing c) + 1 = read_tokens p (now.count (closing c)) in
      omega (arith, is_open)

  holds_read : (p c : Node) → IsNode s p → IsDataEdge s p c → IsOpen now c → held s now p ≡ W p (opening_read p (now.count (closing c)))
  holds_read p c is_p edge is_open = holds p is_p ∙ ap (W p) (opened p c edge is_open)

  below : (c : Node) → IsOpen now c → now.count (closing c) < length vectors
  below c is_open = (let most : now.count (opening c) ≤ length vectors = good.within (opening c) in omega (arith, is_open))

  -- the value that an open node holds is the next one after those that it stored
  holds_open : (n : Node) → IsNode s n → IsOpen now n → held s now n ≡ W n (suc (now.count (closing n)))
  holds_open n is_node is_open = holds n is_node ∙ ap (W n) (is_open ∙ add-one (now.count (closing n)))

  -- what the nodes hold is a way to show
  held_settles : (n : Node) → IsNode s n → IsOpen now n → values_at (nets (now.count (closing n))) (nets_of s n) ≡ W n (suc (now.count (closing n))) → IsSettled s (held s now) n (held s now n)
  held_settles n is_node is_open value =
      subst (λ (row : Row). IsSettled s (held s now) n row) (value ∙ sym (holds_open n is_node is_open))
      (settled_where s n (λ p. W p (opening_read p (now.count (closing n)))) (held s now) (λ p is_p edge. sym (holds_read p n is_p edge is_open)) (values_at (nets (now.count (closing n))) (nets_of s n))
      (run_settles s controller.split vectors state nets run n (now.count (closing n)) (below n is_open)))

  master_is : (i : ℕ) → i < length s.clusters → IsOpen now (Master i) → values_at (nets (now.count (closing (Master i)))) (nets_of s (Master i)) ≡ W (Master i) (suc (now.count (closing (Master i))))
  master_is i inside is_open = master_value s controller.split vectors state nets run i inside (now.count (closing (Master i))) (below (Master i) is_open)

  -- an open slave holds what its master holds
  slave_holds : (i : ℕ) → i < length s.clusters → IsOpen now (Slave i) → held s now (Slave i) ≡ held s now (Master i)
  slave_holds i inside is_open =
      holds_open (Slave i) inside is_open
      ∙ sym (holds_read (Master i) (Slave i) inside (to_slave inside) is_open ∙ ap (W (Master i)) (add-one (now.count (closing (Slave i)))))

  held_makes : (n : Node) → IsNode s n → IsOpen now n → Makes s vectors now (held s now) n (held s now n)
  held_makes In is_node is_open = holds_open In is_node is_open
  held_makes Out is_node is_open = held_settles Out is_node is_open refl
  held_makes (Master i) is_node is_open = held_settles (Master i) is_node is_open (master_is i is_node is_open)
  held_makes (Slave i) is_node is_open = slave_holds i is_node is_open

  held_shows : IsShowing s vectors now (held s now)
  held_shows = record { is_closed = λ n is_node e. refl; is_open = held_makes }

  module _ (shown : Node → Row) (showing : IsShowing s vectors now shown) where
    in_same : shown In ≡ held s now In
    in_same =
        elim (cases_open In tt) [
          | inl e ↦ showing.is_closed In tt e
          | inr is_open ↦ showing.is_open In tt is_open ∙ sym (holds_open In tt is_open)
        ]

    reads : (n : Node) → IsOpen now n → ((p : Node) → IsDataEdge s p n → IsSource p) → ((i : ℕ) → i < length s.clusters → now.count (opening (Slave i)) < now.count (opening n) → shown (Slave i) ≡ held s now (Slave i)) → (p : Node) → IsNode s p → IsDataEdge s p n → shown p ≡ W p (opening_read p (now.count (closing n)))
    reads n is_open sources slaves In is_p edge = in_same ∙ holds_read In n is_p edge is_open
    reads n is_open sources slaves Out is_p edge = absurd (sources Out edge)
    reads n is_open sources slaves (Master d) is_p edge = absurd (sources (Master d) edge)
    reads n is_open sources slaves (Slave d) is_p edge =
        slaves d is_p (let at : now.count (opening (Slave d)) ≡ now.count (closing n) = opened (Slave d) n edge is_open in omega (arith, is_open)) ∙ holds_read (Slave d) n is_p edge is_open

    -- a node that settles, where all slaves that have opened less often show what they hold
    settling : (n : Node) → IsNode s n → Settles s n → ((p : Node) → IsDataEdge s p n → IsSource p) → (IsOpen now n → IsSettled s shown n (shown n)) → (IsOpen now n → values_at (nets (now.count (closing n))) (nets_of s n) ≡ W n (suc (now.count (closing n))))
        → ((i : ℕ) → i < length s.clusters → now.count (opening (Slave i)) < now.count (opening n) → shown (Slave i) ≡ held s now (Slave i)) → shown n ≡ held s now n
    settling n is_node edges sources settles value slaves =
        elim (cases_open n is_node) [
          | inl e ↦ showing.is_closed n is_node e
          | inr is_open ↦
              settled_same s controller.split n edges shown (λ p. W p (opening_read p (now.count (closing n)))) (reads n is_open sources slaves) (shown n) (values_at (nets (now.count (closing n))) (nets_of s n)) (settles is_open)
              (run_settles s controller.split vectors state nets run n (now.count (closing n)) (below n is_open))
              ∙ (value is_open ∙ sym (holds_open n is_node is_open))
        ]

    master_sources : (i : ℕ) (p : Node) → IsDataEdge s p (Master i) → IsSource p
    master_sources i p (to_master source is_p inside supplies) = source

    out_sources : (p : Node) → IsDataEdge s p Out → IsSource p
    out_sources p (to_out source is_p supplies) = source

    master_same : (i : ℕ) → i < length s.clusters → ((d : ℕ) → d < length s.clusters → now.count (opening (Slave d)) < now.count (opening (Master i)) → shown (Slave d) ≡ held s now (Slave d)) → shown (Master i) ≡ held s now (Master i)
    master_same i inside slaves = settling (Master i) inside (settles_master s i inside) (master_sources i) (showing.is_open (Master i) inside) (master_is i inside) slaves

    slave_same : (most : ℕ) (i : ℕ) → i < length s.clusters → now.count (opening (Slave i)) < most → shown (Slave i) ≡ held s now (Slave i)
    slave_same zero i inside few = absurd (omega arith)
    slave_same (suc most) i inside few =
        elim (cases_open (Slave i) inside) [
          | inl e ↦ showing.is_closed (Slave i) inside e
          | inr is_open ↦
              showing.is_open (Slave i) inside is_open
              ∙ (master_same i inside (λ d within less. slave_same most d within
              (let at : now.count (opening (Master i)) ≡ now.count (closing (Slave i)) + 1 = opened (Master i) (Slave i) (to_slave inside) is_open in omega (arith, is_open)))
              ∙ sym (slave_holds i inside is_open))
        ]

    every_slave : (d : ℕ) → d < length s.clusters → shown (Slave d) ≡ held s now (Slave d)
    every_slave d inside = slave_same (suc (now.count (opening (Slave d)))) d inside (omega arith)

    same : (n : Node) → IsNode s n → shown n ≡ held s now n
    same In is_node = in_same
    same Out is_node = settling Out is_node (settles_out s) out_sources (showing.is_open Out is_node) (λ is_open. refl) (λ d inside less. every_slave d inside)
    same (Master i) is_node = master_same i is_node (λ d inside less. every_slave d inside)
    same (Slave i) is_node = every_slave i is_node

pub transparent_latches : (s : Split) (g : Graph) → IsController s g → s.slack ≡ 0 → (vectors : List Row) (state nets : ℕ → Row) → IsRun s.circuit s.initial vectors state nets → (events : List ℕ) → IsLegal g (length vectors) events → (now : State) → FiresAll s vectors (first_state s) events now → IsShowing s vectors now (held s now) × ((shown : Node → Row) → IsShowing s vectors now shown → (n : Node) → IsNode s n → shown n ≡ held s now n)
transparent_latches s g controller none vectors state nets run events legal now fires =
    let good : InStep s g controller vectors state nets run now = steps_kept s g controller vectors state nets run events legal now fires in
    (held_shows s g controller none vectors state nets run now good, same s g controller none vectors state nets run now good)
