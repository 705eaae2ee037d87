-- Until an open node closes, what it has read of a producer stays.
use Rattle.std.proofs.Common.{◌≡◌, ◌∙◌, ℕ, ◌+◌, ◌<◌, ◌≤◌, List, [], ◌∷◌, ◌++◌, length, arith, ap, sym, subst}
use Rattle.ds_base.specs.Values.{Row}
use Rattle.ds_design.specs.Run.{IsRun}
use Rattle.ds_marked.specs.Graph.{Graph, IsLegal, IsLegalFrom, counted}
use Rattle.ds_marked.proofs.CountLemmas.{counted-ge}
use Rattle.ds_latch.specs.Node.{Split, opening, closing}
use Rattle.ds_latch.specs.declared.node.Node.{Node}
use Rattle.ds_latch.specs.Order.{IsDataEdge, after_producer, before_reuse, open_tokens, close_tokens}
use Rattle.ds_latch.specs.Plan.{IsController}
use Rattle.ds_latch.specs.Numbered.{numbered}
use Rattle.ds_latch.specs.Firing.{State, FiresAll, first_state, opening_read}
use Rattle.ds_latch.specs.Transparent.{IsOpen}
use Rattle.ds_latch.proofs.OrderTokens.{edge_tokens, read_tokens}
use Rattle.ds_latch.proofs.Flow.{InStep, fires_count, steps_kept}
use Rattle.ds_latch.proofs.OrdersRise.{edge_nodes}
use Rattle.ds_laws.specs.Latches.{row_read}

-- the front of a legal list is legal
legal_front : (g : Graph) (limit : ℕ) (events more : List ℕ) (count : ℕ → ℕ) → IsLegalFrom g limit count (events ++ more) → IsLegalFrom g limit count events
legal_front g limit [] more count legal = tt
legal_front g limit (v ∷ events) more count (enabled, legal) = (enabled, legal_front g limit events more (counted v count) legal)

-- firings of two lists, one after the other
fires_both : (s : Split) (vectors : List Row) (events more : List ℕ) (old now later : State) → FiresAll s vectors old events now → FiresAll s vectors now more later → FiresAll s vectors old (events ++ more) later
fires_both s vectors [] more old now later same fires = subst (λ (t : State). FiresAll s vectors t more later) same fires
fires_both s vectors (v ∷ events) more old now later (next, first, rest) fires = (next, first, fires_both s vectors events more next now later rest fires)

-- counts do not fall
counts_rise : (s : Split) (vectors : List Row) (events : List ℕ) (old now : State) → FiresAll s vectors old events now → (v : ℕ) → old.count v ≤ now.count v
counts_rise s vectors [] old now same v = omega (arith, ap (λ (t : State). t.count v) same)
counts_rise s vectors (u ∷ events) old now (next, first, rest) v = omega (
  arith,
  counted-ge u v old.count,
  ap (λ (count : ℕ → ℕ). count v) (fires_count s vectors old u next first),
  counts_rise s vectors events next now rest v,
)

module _ (s : Split) (g : Graph) (controller : IsController s g) (vectors : List Row) (state nets : ℕ → Row) (run : IsRun s.circuit s.initial vectors state nets) where
  -- what an open node has read is its producer's value in the clocked run
  read_is : (now : State) → InStep s g controller vectors state nets run now → (p c : Node) → IsDataEdge s p c → now.count (closing c) < now.count (opening c)
      → row_read s now c p ≡ numbered s vectors state nets p (opening_read p (now.count (closing c)))
  read_is now good p c edge is_open =
      let after : now.count (opening c) ≤ now.count (opening p) + open_tokens p = controller.meets now.count good.agrees (opening p) (opening c) (open_tokens p) (after_producer p c edge) in
      let before : now.count (opening p) ≤ now.count (closing c) + close_tokens s p = controller.meets now.count good.agrees (closing c) (opening p) (close_tokens s p) (before_reuse p c edge) in
      let read : opening_read p (now.count (closing c)) + open_tokens p ≡ now.count (closing c) + 1 = read_tokens p (now.count (closing c)) in
      good.step.kept p (edge_nodes s p c edge).0 (opening_read p (now.count (closing c))) (omega (arith, after, is_open, read)) (omega (arith, before, read, edge_tokens s p))

  pub read_rows_stay : (events more : List ℕ) → IsLegal g (length vectors) (events ++ more)
      → (now later : State) → FiresAll s vectors (first_state s) events now → FiresAll s vectors now more later
      → (p c : Node) → IsDataEdge s p c → IsOpen now c → later.count (closing c) ≡ now.count (closing c)
      → row_read s later c p ≡ row_read s now c p
  read_rows_stay events more legal now later fires fires' p c edge is_open same =
      let good : InStep s g controller vectors state nets run now = steps_kept s g controller vectors state nets run events (legal_front g (length vectors) events more (λ _. 0) legal) now fires in
      let good' : InStep s g controller vectors state nets run later = steps_kept s g controller vectors state nets run (events ++ more) legal later (fires_both s vectors events more (first_state s) now later fires fires') in
      read_is later good' p c edge (omega (arith, is_open, same, counts_rise s vectors more now later fires' (opening c)))
      ∙ (ap (λ (k : ℕ). numbered s vectors state nets p (opening_read p k)) same
      ∙ sym (read_is now good p c edge (omega (arith, is_open))))
