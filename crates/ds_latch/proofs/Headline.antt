-- The headline: what every legal list leaves.
use Rattle.std.proofs.Common.{◌≡◌, ◌∙◌, ℕ, zero, suc, ◌+◌, ◌*◌, ◌<◌, ◌≤◌, List, [], ◌∷◌, ◌++◌, length, get_or, map, take, drop, inl, inr, refl, arith, ap, ap₂, sym, add-one, length-append}
use Rattle.std.specs.Prelude.{◌⊎◌, All}
use Rattle.std.specs.List.{range_with_len}
use Rattle.std.proofs.lemmas.Bool.{cases_lt}
use Rattle.std.proofs.lemmas.List.{get_or-map, take-append-drop}
use Rattle.ds_base.proofs.ListLemmas.{map_agree}
use Rattle.std.proofs.lemmas.List.FromFn.{length-map-range_with_len, take-map-range_with_len}
use Rattle.std.proofs.lemmas.Simd.{map-map}
use Rattle.ds_base.specs.Values.{Row}
use Rattle.ds_base.specs.declared.value.Value.{Value}
use Rattle.ds_base.specs.declared.value.Value.TheVariants.{Zero}
use Rattle.ds_cover.specs.Cover.{value_at, values_at}
use Rattle.ds_marked.specs.Graph.{Graph, IsConsistent, IsLegal, IsLive, counts_after}
use Rattle.ds_marked.specs.Progress.{HasFiredAll}
use Rattle.ds_marked.proofs.Progress.{legal_goes_on, legal_is_consistent, progress}
use Rattle.ds_design.specs.Circuit.{columns}
use Rattle.ds_design.specs.InRange.{IsInRange}
use Rattle.ds_design.specs.Run.{IsRun}
use Rattle.ds_design.specs.Trace.{IsTraceFrom}
use Rattle.ds_design.proofs.ClockedRuns.{one_run, some_run}
use Rattle.ds_latch.specs.Node.{Split, IsNode, number_of, closing, members, nodes}
use Rattle.ds_latch.specs.declared.node.Node.{Node}
use Rattle.ds_latch.specs.declared.node.Node.TheVariants.{Out, Slave}
use Rattle.ds_latch.specs.Plan.{IsController, IsPlan, split_events}
use Rattle.ds_latch.specs.Numbered.{numbered}
use Rattle.ds_latch.specs.Firing.{State, first_state, FiresAll}
use Rattle.ds_latch.specs.Flow.{IsInStep}
use Rattle.ds_latch.specs.Headline.{AreStored, BeginsWith, Desynchronizes, HasNext, Interleaves, StandsAt, outputs_clocked, stored_lines, values_clocked, values_stored}
use Rattle.ds_latch.proofs.OrderTokens.{accepted_controls, number_below}
use Rattle.ds_latch.proofs.Flow.{InStep, fires_count, steps_kept, some_firing}
use Rattle.ds_latch.proofs.OrdersRise.{events_long}
use Rattle.ds_latch.proofs.Spelt.{stored_rows_spell_trace}

-- lists whose values differ by a place
shifted : {X : Type 0} (f g : ℕ → X) (a n : ℕ) → ((k : ℕ) → f (k + 1) ≡ g k) → map f (range_with_len (a + 1) n) ≡ map g (range_with_len a n)
shifted f g a zero same = refl
shifted {X} f g a (suc n) same = ap₂ (λ (x : X) (xs : List X). x ∷ xs) (same a) (shifted f g (a + 1) n same)

-- below a bound each count is the limit, or some count is below it
all_or_below : (count : ℕ → ℕ) (limit bound : ℕ) → ((v : ℕ) → v < bound → count v ≤ limit)
    → ((v : ℕ) → v < bound → count v ≡ limit) ⊎ ((v : ℕ) × (v < bound) × (count v < limit))
all_or_below count limit zero within = inl (λ v low. absurd (omega arith))
all_or_below count limit (suc n) within =
    elim (cases_lt (count n) limit) [
      | inl below ↦ inr (n, omega arith, below)
      | inr past ↦
          (let here : count n ≤ limit = within n (omega arith) in
          elim (all_or_below count limit n (λ v low. within v (omega arith))) [
            | inl all ↦ inl (λ v low. elim (cases_lt v n) [
              | inl less ↦ all v less
              | inr more ↦ (let same : v ≡ n = omega arith in ap count same ∙ (let full : count n ≡ limit = omega arith in full))
            ])
            | inr (v, low, below) ↦ inr (v, omega arith, below)
          ])
    ]

-- firing goes on until every event has fired as often as it may
pub all_or_next : (g : Graph) → IsLive g → (limit : ℕ) (events : List ℕ) → IsLegal g limit events → HasFiredAll g limit (counts_after (λ _. 0) events) ⊎ HasNext g limit events
all_or_next g live limit events legal =
    let consistent : IsConsistent g limit (counts_after (λ _. 0) events) = legal_is_consistent g limit events legal in
    elim (all_or_below (counts_after (λ _. 0) events) limit (length g.events) consistent.within) [
      | inl all ↦ inl all
      | inr (v, inside, below) ↦ inr (progress g live limit (counts_after (λ _. 0) events) consistent v inside below)
    ]

-- the values that a register has stored are the first of its clocked values
pub stored_begins : (s : Split) (vectors : List Row) (state nets : ℕ → Row) (now : State) → IsInStep s vectors state nets now
    → (turns : ℕ) → ((n : ℕ) → now.count n ≤ turns) → (register cluster place : ℕ) → StandsAt s register cluster place
    → BeginsWith (values_clocked state turns register) (values_stored now cluster place)
stored_begins s vectors state nets now step turns within register cluster place at =
    let closed : ℕ = now.count (closing (Slave cluster)) in
    let whole : List Value = values_clocked state turns register in
    let low : now.count (closing (Slave cluster)) ≤ turns = within (closing (Slave cluster)) in
    let stored : values_stored now cluster place ≡ map (λ k. value_at (numbered s vectors state nets (Slave cluster) k) place) (range_with_len 1 closed) =
    ap (λ (rows : List Row). map (λ row. value_at row place) rows) (step.stored (Slave cluster) at.is_cluster)
    ∙ map-map (λ (row : Row). value_at row place) (numbered s vectors state nets (Slave cluster)) (range_with_len 1 closed) in
    let same : map (λ k. value_at (numbered s vectors state nets (Slave cluster) k) place) (range_with_len 1 closed) ≡ map (λ k. value_at (state k) register) (range_with_len 1 closed) =
    map_agree (λ k. value_at (numbered s vectors state nets (Slave cluster) k) place) (λ k. value_at (state k) register) (range_with_len 1 closed) (λ i d inside.
    let k : ℕ = get_or (range_with_len 1 closed) i d in
    get_or-map (value_at (state k)) (members s cluster) place 0 Zero at.inside ∙ ap (value_at (state k)) at.here) in
    let front : take closed whole ≡ values_stored now cluster place =
    take-map-range_with_len (λ k. value_at (state k) register) 1 turns closed low ∙ (sym same ∙ sym stored) in (
      drop closed whole,
      sym (take-append-drop closed whole) ∙ ap (λ (xs : List Value). xs ++ drop closed whole) front,
    )

-- the rows that OUT has stored are the first of the rows of the outputs
pub outputs_begin : (s : Split) (vectors : List Row) (state nets : ℕ → Row) (now : State) → IsInStep s vectors state nets now
    → (turns : ℕ) → ((n : ℕ) → now.count n ≤ turns) → BeginsWith (outputs_clocked s.circuit nets turns) (now.stored Out)
outputs_begin s vectors state nets now step turns within =
    let closed : ℕ = now.count (closing Out) in
    let whole : List Row = outputs_clocked s.circuit nets turns in
    let low : now.count (closing Out) ≤ turns = within (closing Out) in
    let front : take closed whole ≡ now.stored Out =
    take-map-range_with_len (λ k. values_at (nets k) s.circuit.outputs) 0 turns closed low
    ∙ (sym (shifted (numbered s vectors state nets Out) (λ k. values_at (nets k) s.circuit.outputs) 0 closed (λ k. ap (numbered s vectors state nets Out) (add-one k))) ∙ sym (step.stored Out tt)) in (
      drop closed whole,
      sym (take-append-drop closed whole) ∙ ap (λ (xs : List Row). xs ++ drop closed whole) front,
    )

-- each node has stored as many rows as it has closed
pub stored_long : (s : Split) (vectors : List Row) (state nets : ℕ → Row) (now : State) → IsInStep s vectors state nets now
    → (n : Node) → IsNode s n → length (now.stored n) ≡ now.count (closing n)
stored_long s vectors state nets now step n is_node =
    ap length (step.stored n is_node)
    ∙ length-map-range_with_len (numbered s vectors state nets n) 1 (now.count (closing n))

-- firings count as their list does
fired_counts : (s : Split) (vectors : List Row) (old now : State) (events : List ℕ) → FiresAll s vectors old events now
    → now.count ≡ counts_after old.count events
fired_counts s vectors old now [] same = ap (λ (t : State). t.count) same
fired_counts s vectors old now (v ∷ events) (next, fires, rest) =
    fired_counts s vectors next now events rest
    ∙ ap (λ (count : ℕ → ℕ). counts_after count events) (fires_count s vectors old v next fires)

-- the events of the nodes are events of the graph
node_event : (s : Split) (g : Graph) → IsPlan s g → (n : Node) → IsNode s n → closing n < length g.events
node_event s g plan n is_node =
    let long : length (split_events s) ≡ 2 * nodes s = events_long s in
    let all : length g.events ≡ length (split_events s) + length plan.extra =
    ap length plan.events ∙ length-append (split_events s) plan.extra in
    let below : number_of n < nodes s = number_below s n is_node in
    omega arith

module _ (s : Split) (g : Graph) (plan : IsPlan s g) (vectors : List Row) (state nets : ℕ → Row)
    (run : IsRun s.circuit s.initial vectors state nets) where
  controls : IsController s g
  controls = accepted_controls s g plan

  -- a list that has every event once a vector spells the trace
  spelt_by : (events : List ℕ) → IsLegal g (length vectors) events → HasFiredAll g (length vectors) (counts_after (λ _. 0) events)
      → (now : State) → FiresAll s vectors (first_state s) events now
      → (rows : ℕ → Row) → AreStored s now (length vectors) rows
      → IsTraceFrom s.circuit 0 s.initial vectors (stored_lines 0 now (length vectors) rows) (rows (length vectors))
  spelt_by events legal full now all rows are =
      let kept : InStep s g controls vectors state nets run now = steps_kept s g controls vectors state nets run events legal now all in
      let closed : (n : Node) → IsNode s n → now.count (closing n) ≡ length vectors = λ n is_node.
      ap (λ (count : ℕ → ℕ). count (closing n)) (fired_counts s vectors (first_state s) now events all)
      ∙ full (closing n) (node_event s g plan n is_node) in
      let (lines, last) = stored_rows_spell_trace s plan.split 0 vectors state nets run now kept.step closed rows are.first are.later in
      record { state = state; nets = nets; run = run; spelt = lines; ends = last }

  pub interleaves : (events : List ℕ) → IsLegal g (length vectors) events → Interleaves s g vectors state nets events
  interleaves events legal = record {
    fires = some_firing s g controls vectors state nets run events legal;
    stores = λ now all.
        let kept : InStep s g controls vectors state nets run now = steps_kept s g controls vectors state nets run events legal now all in
        stored_begins s vectors state nets now kept.step (length vectors) kept.within;
    outputs_stored = λ now all.
        let kept : InStep s g controls vectors state nets run now = steps_kept s g controls vectors state nets run events legal now all in
        outputs_begin s vectors state nets now kept.step (length vectors) kept.within;
    stores_once_a_closing = λ now all n is_node.
        let kept : InStep s g controls vectors state nets run now = steps_kept s g controls vectors state nets run events legal now all in
        stored_long s vectors state nets now kept.step n is_node
        ∙ ap (λ (count : ℕ → ℕ). count (closing n)) (fired_counts s vectors (first_state s) now events all);
    goes_on = all_or_next g controls.live (length vectors) events legal;
    ends = legal_goes_on g controls.live (length vectors) events legal;
    spells = spelt_by events legal;
  }

pub headline : (s : Split) (g : Graph) → IsPlan s g → IsInRange s.circuit
    → (vectors : List Row) → All (λ vector. length vector ≡ length (columns s.circuit)) vectors
    → Desynchronizes s g vectors
headline s g plan in_range vectors wide =
    let (state, nets, run) = some_run s.circuit in_range plan.split.accepted s.initial vectors plan.split.one_value_each wide in
    record {
      state = state;
      nets = nets;
      run = run;
      one = λ state' nets' run' k. one_run s.circuit plan.split.accepted s.initial vectors state' nets' state nets run' run k;
      all = interleaves s g plan vectors state nets run;
    }
