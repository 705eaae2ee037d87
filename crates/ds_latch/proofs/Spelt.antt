-- What a finished run has stored spells the trace.
use Rattle.std.proofs.Common.{◌≡◌, ℕ, zero, suc, ◌+◌, ◌<◌, ◌≤◌, List, [], ◌++◌, length, refl, arith, ap, sym, ◌∙◌, subst, inl, inr, add-one}
use Rattle.std.specs.Prelude.{Contains}
use Rattle.std.specs.List.{flat_map, range_with_len}
use Rattle.std.proofs.lemmas.Bool.{cases_lt}
use Rattle.std.proofs.lemmas.List.{length-map, get_or_default, get_or_past}
use Rattle.std.proofs.lemmas.List.FromFn.{get_or-map-range_with_len}
use Rattle.ds_cover.specs.Cover.{value_at, values_at}
use Rattle.ds_design.specs.Circuit.{data_nets}
use Rattle.ds_design.specs.Run.{IsRun, row_at}
use Rattle.ds_design.specs.Trace.{trace_line, trace_lines}
use Rattle.ds_latch.specs.Node.{Split, IsNode, closing, members}
use Rattle.ds_latch.specs.declared.node.Node.{Node}
use Rattle.ds_latch.specs.declared.node.Node.TheVariants.{Out, Slave}
use Rattle.ds_latch.specs.Plan.{IsSplit}
use Rattle.ds_latch.specs.Numbered.{numbered}
use Rattle.ds_latch.specs.Firing.{State, AreRegisters}
use Rattle.ds_latch.specs.Flow.{IsInStep}
use Rattle.ds_design.specs.declared.design.Register.{Register}
use Rattle.ds_base.proofs.ListLemmas.{agree_from_map, lists_same}
use Rattle.ds_base.specs.Values.{Row}
use Rattle.ds_base.specs.declared.value.Value.TheVariants.{Zero}

-- lists that agree place by place are one list when they are put together
pub range_agree : {X : Type 0} (f g : ℕ → List X) (a n : ℕ) → ((k : ℕ) → k < a + n → f k ≡ g k) → flat_map f (range_with_len a n) ≡ flat_map g (range_with_len a n)
range_agree f g a zero same = refl
range_agree f g a (suc n) same =
    ap (λ xs. xs ++ flat_map f (range_with_len (a + 1) n)) (same a (omega arith))
    ∙ ap (λ xs. g a ++ xs) (range_agree f g (a + 1) n (λ k below. same k (omega arith)))

module _ (s : Split) (split : IsSplit s) (first : ℕ) (vectors : List Row) (state nets : ℕ → Row) (run : IsRun s.circuit s.initial vectors state nets) (now : State) (step : IsInStep s vectors state nets now) (full : (n : Node) → IsNode s n → now.count (closing n) ≡ length vectors) (rows : ℕ → Row) (start : rows 0 ≡ s.initial) (after : (k : ℕ) → k < length vectors → AreRegisters s (λ n. row_at (now.stored n) k) (rows (k + 1))) where
  stored_at : (n : Node) → IsNode s n → (k : ℕ) → k < length vectors → row_at (now.stored n) k ≡ numbered s vectors state nets n (suc k)
  stored_at n is_node k below =
      let count : now.count (closing n) ≡ length vectors = full n is_node in
      ap (λ (rs : List Row). row_at rs k) (step.stored n is_node)
      ∙ get_or-map-range_with_len (numbered s vectors state nets n) 1 (now.count (closing n)) k (suc k) [] (omega arith) (omega arith)

  state_long : (k : ℕ) → k ≤ length vectors → length (state k) ≡ length s.circuit.registers
  state_long zero below = ap length run.starts ∙ split.one_value_each
  state_long (suc k) below =
      let turn : state (suc k) ≡ values_at (nets k) (data_nets s.circuit) = rw add-one at (run.steps k (omega arith)) in
      ap length turn ∙ (length-map (data_nets s.circuit) (value_at (nets k)) ∙ length-map s.circuit.registers (λ (r : Register). r.data_net))

  rows_are : (k : ℕ) → k ≤ length vectors → rows k ≡ state k
  rows_are zero below = start ∙ sym run.starts
  rows_are (suc k) below =
      let here : AreRegisters s (λ n. row_at (now.stored n) k) (rows (suc k)) = subst (λ (j : ℕ). AreRegisters s (λ n. row_at (now.stored n) k) (rows j)) (add-one k) (after k (omega arith)) in
      let long : length (rows (suc k)) ≡ length s.circuit.registers = here.0 in
      let long' : length (state (suc k)) ≡ length s.circuit.registers = state_long (suc k) below in
      lists_same (rows (suc k)) (state (suc k)) Zero (long ∙ sym long') (λ r.
      elim (cases_lt r (length s.circuit.registers)) [
        | inl is_register ↦
            (let (d, cluster, inside, is, in_cluster) = split.covered r is_register in
            let same : cluster ≡ members s d = sym is ∙ get_or_default s.clusters d cluster [] inside in
            let in_members : Contains (members s d) r = subst (λ (rs : List ℕ). Contains rs r) same in_cluster in
            let agree : values_at (rows (suc k)) (members s d) ≡ values_at (state (suc k)) (members s d) = here.1 d inside ∙ stored_at (Slave d) inside k (omega arith) in
            agree_from_map (value_at (rows (suc k))) (value_at (state (suc k))) (members s d) agree r in_members)
        | inr past ↦ get_or_past (rows (suc k)) r Zero (omega arith) ∙ sym (get_or_past (state (suc k)) r Zero (omega arith))
      ])

  spells : (flat_map (λ k. trace_line (first + k) (row_at (now.stored Out) k) (rows k)) (range_with_len 0 (length vectors)) ≡ trace_lines s.circuit first (length vectors) state nets)
  spells =
      range_agree (λ k. trace_line (first + k) (row_at (now.stored Out) k) (rows k)) (λ k. trace_line (first + k) (values_at (nets k) s.circuit.outputs) (state k)) 0 (length vectors)
      (λ k below. ap (λ (o : Row). trace_line (first + k) o (rows k)) (stored_at Out tt k (omega arith)) ∙ ap (λ (r : Row). trace_line (first + k) (values_at (nets k) s.circuit.outputs) r) (rows_are k (omega arith)))

  pub stored_rows_spell_trace : (flat_map (λ k. trace_line (first + k) (row_at (now.stored Out) k) (rows k)) (range_with_len 0 (length vectors)) ≡ trace_lines s.circuit first (length vectors) state nets) × (rows (length vectors) ≡ state (length vectors))
  stored_rows_spell_trace = (spells, rows_are (length vectors) (omega arith))
