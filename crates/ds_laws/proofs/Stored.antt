-- Where every event has fired once a vector, the registers that are stored are the clocked ones.
use Rattle.std.proofs.Common.{◌≡◌, ◌∙◌, ℕ, zero, suc, ◌+◌, ◌<◌, ◌≤◌, List, [], length, arith, ap, sym, subst, add-one, length-append}
use Rattle.std.specs.Prelude.{Contains}
use Rattle.std.proofs.lemmas.List.{ext_get_or, get_or_default, length-map}
use Rattle.std.proofs.lemmas.List.FromFn.{get_or-map-range_with_len}
use Rattle.ds_base.proofs.ListLemmas.{agree_from_map}
use Rattle.ds_base.specs.Values.{Row}
use Rattle.ds_base.specs.declared.value.Value.TheVariants.{Zero}
use Rattle.ds_cover.specs.Cover.{value_at}
use Rattle.ds_design.specs.Circuit.{data_nets}
use Rattle.ds_design.specs.Run.{IsRun, row_at}
use Rattle.ds_marked.specs.Graph.{Graph, IsLegal, counts_after}
use Rattle.ds_latch.specs.Node.{Split, IsNode, closing, members}
use Rattle.ds_latch.specs.declared.node.Node.{Node}
use Rattle.ds_latch.specs.declared.node.Node.TheVariants.{Slave}
use Rattle.ds_latch.specs.Plan.{IsPlan, IsSplit, split_events}
use Rattle.ds_latch.specs.Numbered.{numbered}
use Rattle.ds_latch.specs.Firing.{State, AreRegisters, FiresAll, first_state}
use Rattle.ds_latch.specs.Flow.{IsInStep}
use Rattle.ds_latch.specs.Headline.{AreStored}
use Rattle.ds_marked.specs.Progress.{HasFiredAll}
use Rattle.ds_latch.proofs.OrderTokens.{accepted_controls, number_below}
use Rattle.ds_latch.proofs.Flow.{flow_equivalence}
use Rattle.ds_latch.proofs.OrdersRise.{events_long}
use Rattle.ds_laws.proofs.NothingOpen.{counts_are}

-- the slaves show one row of registers
registers_one : (s : Split) → IsSplit s → (shown : Node → Row) (one two : Row) → AreRegisters s shown one → AreRegisters s shown two → one ≡ two
registers_one s split shown one two (long, are) (long', are') =
    ext_get_or Zero one two (long ∙ sym long') (λ r inside.
    let (d, cluster, is_cluster, is, in_cluster) = split.covered r (omega (arith, long, inside)) in
    let same : cluster ≡ members s d = sym is ∙ get_or_default s.clusters d cluster [] is_cluster in
    agree_from_map (value_at one) (value_at two) (members s d) (are d is_cluster ∙ sym (are' d is_cluster)) r
    (subst (λ (rs : List ℕ). Contains rs r) same in_cluster))

-- the events of the nodes are events of the graph
node_event : (s : Split) (g : Graph) → IsPlan s g → (n : Node) → IsNode s n → closing n < length g.events
node_event s g plan n is_node = omega (
  arith,
  ap length plan.events,
  length-append (split_events s) plan.extra,
  events_long s,
  number_below s n is_node,
)

module _ (s : Split) (g : Graph) (plan : IsPlan s g) (vectors : List Row) (state nets : ℕ → Row) (run : IsRun s.circuit s.initial vectors state nets)
    (events : List ℕ) (legal : IsLegal g (length vectors) events) (all : HasFiredAll g (length vectors) (counts_after (λ _. 0) events))
    (now : State) (fires : FiresAll s vectors (first_state s) events now) where
  step : IsInStep s vectors state nets now
  step = flow_equivalence s g (accepted_controls s g plan) vectors state nets run events legal now fires

  closed : (n : Node) → IsNode s n → now.count (closing n) ≡ length vectors
  closed n is_node =
      ap (λ (count : ℕ → ℕ). count (closing n)) (counts_are s vectors (first_state s) now events fires)
      ∙ all (closing n) (node_event s g plan n is_node)

  stored_at : (n : Node) → IsNode s n → (k : ℕ) → k < length vectors → row_at (now.stored n) k ≡ numbered s vectors state nets n (k + 1)
  stored_at n is_node k below =
      ap (λ (rows : List Row). row_at rows k) (step.stored n is_node)
      ∙ get_or-map-range_with_len (numbered s vectors state nets n) 1 (now.count (closing n)) k (k + 1) [] (omega (arith, closed n is_node, below)) (omega arith)

  state_long : (k : ℕ) → k < length vectors → length (state (k + 1)) ≡ length s.circuit.registers
  state_long k below =
      ap length (run.steps k below)
      ∙ (length-map (data_nets s.circuit) (value_at (nets k)) ∙ length-map s.circuit.registers (λ r. r.data_net))

  -- the clocked registers are stored
  state_stored : AreStored s now (length vectors) state
  state_stored = record {
    first = run.starts;
    later = λ k below. (state_long k below, λ i inside. sym (stored_at (Slave i) inside k below));
  }

  -- and nothing else is
  rows_are : (rows : ℕ → Row) → AreStored s now (length vectors) rows → (k : ℕ) → k ≤ length vectors → rows k ≡ state k
  rows_are rows are zero most = are.first ∙ sym run.starts
  rows_are rows are (suc k) most =
      subst (λ (j : ℕ). rows j ≡ state j) (add-one k)
      (registers_one s plan.split (λ n. row_at (now.stored n) k) (rows (k + 1)) (state (k + 1)) (are.later k (omega (arith, most))) (state_stored.later k (omega (arith, most))))

  pub stored_are_there : AreStored s now (length vectors) state × ((rows : ℕ → Row) → AreStored s now (length vectors) rows → (k : ℕ) → k ≤ length vectors → rows k ≡ state k)
  stored_are_there = (state_stored, rows_are)
