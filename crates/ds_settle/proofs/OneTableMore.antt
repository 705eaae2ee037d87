-- One more table of the order.
use Rattle.std.proofs.Common.{◌≡◌, ◌≢◌, ℕ, ◌+◌, ◌<◌, ◌≤◌, List, [], ◌++◌, length, get_or, arith, ap, sym, ◌∙◌, map, inl, inr, subst}
use Rattle.std.specs.Prelude.{All, AllPairs, Contains, not, ◌==◌}
use Rattle.std.specs.List.{list_any}
use Rattle.std.proofs.Math.ListN.{set}
use Rattle.std.proofs.lemmas.List.{get_or-set_same, length-set, length-map, get_or-map, get_or_default}
use Rattle.std.proofs.lemmas.Bool.{cases_eq, cases_lt}
use Rattle.std.proofs.lemmas.List.Elements.{Contains-append_left, Contains-append_right, Contains-get_or, All-filter}
use Rattle.ds_cover.specs.Cover.{Cover, value_at, values_at, signed, some_match, value_of}
use Rattle.ds_design.specs.Circuit.{Circuit, columns, register_nets, drivers, control_nets}
use Rattle.ds_design.specs.Accepted.{IsAccepted}
use Rattle.ds_design.specs.InRange.{IsInRange}
use Rattle.ds_design.specs.Levels.{IsTableOrder}
use Rattle.ds_design.specs.Valuation.{IsValuation}
use Rattle.ds_design.specs.declared.design.Gate.{Gate}
use Rattle.ds_base.proofs.ListLemmas.{Contains-map, map_agree}
use Rattle.ds_settle.specs.Settle.{IsSettledTo}
use Rattle.ds_base.proofs.AppendedPairs.{pairs-left, pairs-right, pairs-between}
use Rattle.ds_settle.proofs.SetBits.{value_at-set_other, values_at-set_other}
use Rattle.ds_base.specs.Values.{Row}
use Rattle.ds_base.specs.declared.value.Value.TheVariants.{Zero}
use Rattle.ds_base.specs.declared.value.Value.{Value}

module _ (c : Circuit) (accepted : IsAccepted c) where
  abbrev outputs : List ℕ
  outputs = map (λ (t : Gate). t.output) c.tables

  pub column_once : AllPairs (λ a b. a ≢ b) (columns c)
  column_once = pairs-left (columns c) outputs (pairs-left (columns c ++ outputs) (register_nets c) accepted.one_driver)

  pub register_once : AllPairs (λ a b. a ≢ b) (register_nets c)
  register_once = pairs-right (columns c ++ outputs) (register_nets c) accepted.one_driver

  pub column_no_register : (net : ℕ) → Contains (columns c) net → ¬ Contains (register_nets c) net
  column_no_register net is = pairs-between (columns c ++ outputs) (register_nets c) accepted.one_driver net (Contains-append_left (columns c) outputs net is)

  output_no_source : (t : Gate) → Contains c.tables t → (¬ Contains (columns c) t.output) × (¬ Contains (register_nets c) t.output)
  output_no_source t at =
      let is : Contains outputs t.output = Contains-map (λ (t : Gate). t.output) c.tables t at in (
        (λ column. pairs-between (columns c) outputs (pairs-left (columns c ++ outputs) (register_nets c) accepted.one_driver) t.output column is),
        pairs-between (columns c ++ outputs) (register_nets c) accepted.one_driver t.output (Contains-append_right (columns c) outputs t.output is),
      )

  output_driven : (t : Gate) → Contains c.tables t → Contains (drivers c) t.output
  output_driven t at = Contains-append_left (columns c ++ outputs) (register_nets c) t.output (Contains-append_right (columns c) outputs t.output (Contains-map (λ (t : Gate). t.output) c.tables t at))

  -- tables at different places drive different nets
  outputs_differ : (j k : ℕ) (d : Gate) → j < length c.tables → k < length c.tables → j ≢ k → (get_or c.tables j d).output ≢ (get_or c.tables k d).output
  outputs_differ j k d inside within ne e =
      let once : AllPairs (λ a b. a ≢ b) outputs = pairs-right (columns c) outputs (pairs-left (columns c ++ outputs) (register_nets c) accepted.one_driver) in
      let sizes : length outputs ≡ length c.tables = length-map c.tables (λ (t : Gate). t.output) in
      let read : (i : ℕ) → i < length c.tables → get_or outputs i 0 ≡ (get_or c.tables i d).output = λ i below. get_or-map (λ (t : Gate). t.output) c.tables i d 0 below in
      elim (cases_lt j k) [
        | inl below ↦ once j k 0 below (omega arith) (read j inside ∙ (e ∙ sym (read k within)))
        | inr above ↦ once k j 0 (omega arith) (omega arith) (read k within ∙ (sym e ∙ sym (read j inside)))
      ]

  pub columns_in_range : IsInRange c → All (λ net. net < length c.nets) (columns c)
  columns_in_range range = All-filter (λ net. not (list_any (λ clock. clock == net) (control_nets c))) (λ net. net < length c.nets) c.inputs range.inputs

  pub value_kept : (cover : Cover) (nets : Row) (at : ℕ) (b : Value) → ¬ Contains cover.inputs at → value_of cover (set nets at b) ≡ value_of cover nets
  value_kept cover nets at b free =
      ap (λ values. signed cover.on (some_match cover.rows values))
      (values_at-set_other nets at b cover.inputs (λ j inside e. free (subst (λ (x : ℕ). Contains cover.inputs x) e (Contains-get_or cover.inputs j 0 inside))))

  others_kept : (nets : Row) (at : ℕ) (b : Value) (these : List ℕ) → ¬ Contains these at → values_at (set nets at b) these ≡ values_at nets these
  others_kept nets at b these free = values_at-set_other nets at b these (λ j inside e. free (subst (λ (x : ℕ). Contains these x) e (Contains-get_or these j 0 inside)))

  module _ (order : List ℕ) (ordered : IsTableOrder c order) (state vector nets : Row) (n : ℕ) (inside : n < length order) (so_far : IsSettledTo c state vector nets order n) (gate : Gate) (within : gate.output < length nets) (gate_is : gate ≡ get_or c.tables (get_or order n 0) gate) where
    place_in : (k : ℕ) → k < length order → get_or order k 0 < length c.tables
    place_in k below = ordered.places k 0 below

    here : Contains c.tables gate
    here = (get_or order n 0, place_in n inside, sym gate_is)

    at_place : (d : Gate) → get_or c.tables (get_or order n 0) d ≡ gate
    at_place d = get_or_default c.tables (get_or order n 0) d gate (place_in n inside) ∙ sym gate_is

    abbrev after : Row
    after = set nets gate.output (value_of gate.table nets)

    reads_not : (k : ℕ) (d : Gate) → k ≤ n → ¬ Contains (get_or c.tables (get_or order k 0) d).table.inputs gate.output
    reads_not k d below = subst (λ (t : Gate). ¬ Contains (get_or c.tables (get_or order k 0) d).table.inputs t.output) (at_place d) (ordered.before k n d below inside)

    table_after : (k : ℕ) (d : Gate) → k < n + 1 → value_at after (get_or c.tables (get_or order k 0) d).output ≡ value_of (get_or c.tables (get_or order k 0) d).table after
    table_after k d below =
        let t : Gate = get_or c.tables (get_or order k 0) d in
        let kept : value_of t.table after ≡ value_of t.table nets = value_kept t.table nets gate.output (value_of gate.table nets) (reads_not k d (omega arith)) in
        elim (cases_eq k n) [
          | inl e ↦
              (let same : t ≡ gate = ap (λ (k : ℕ). get_or c.tables (get_or order k 0) d) e ∙ at_place d in
              ap (λ (u : Gate). value_at after u.output) same
              ∙ (get_or-set_same nets gate.output (value_of gate.table nets) Zero within
              ∙ (ap (λ (u : Gate). value_of u.table nets) (sym same) ∙ sym kept)))
          | inr ne ↦
              (let lower : k < n = omega arith in
              let different : get_or order k 0 ≢ get_or order n 0 = ordered.once k n 0 lower inside in
              let other : t.output ≢ gate.output = (λ e. outputs_differ (get_or order k 0) (get_or order n 0) d (place_in k (omega arith)) (place_in n inside) different (e ∙ ap (λ (u : Gate). u.output) (sym (at_place d)))) in
              value_at-set_other nets gate.output t.output (value_of gate.table nets) other ∙ (so_far.table k d lower ∙ sym kept))
        ]

    pub settled_more : IsSettledTo c state vector after order (n + 1)
    settled_more = record {
      one_each = length-set nets gate.output (value_of gate.table nets) ∙ so_far.one_each;
      column = others_kept nets gate.output (value_of gate.table nets) (columns c) (output_no_source gate here).0 ∙ so_far.column;
      register = others_kept nets gate.output (value_of gate.table nets) (register_nets c) (output_no_source gate here).1 ∙ so_far.register;
      undriven = λ net below free.
          value_at-set_other nets gate.output net (value_of gate.table nets) (λ e. free (subst (λ (x : ℕ). Contains (drivers c) x) (sym e) (output_driven gate here))) ∙ so_far.undriven net below free;
      table = table_after;
    }

  pub settled_all : (order : List ℕ) → IsTableOrder c order → (state vector nets : Row) → IsSettledTo c state vector nets order (length order) → IsValuation c state vector nets
  settled_all order ordered state vector nets done = record {
    one_each = done.one_each;
    column = done.column;
    register = done.register;
    undriven = done.undriven;
    table = λ k d inside.
        let (j, below, at) = ordered.all k inside in
        let place : get_or order j 0 ≡ k = get_or_default order j 0 k below ∙ at in
        subst (λ (p : ℕ). value_at nets (get_or c.tables p d).output ≡ value_of (get_or c.tables p d).table nets) place (done.table j d below);
  }

  -- after the registers are set, over the columns, over zeros
  pub sources_settled : (state vector zeros columns_set nets : Row) → length nets ≡ length c.nets
      → ((net : ℕ) → value_at zeros net ≡ Zero)
      → values_at columns_set (columns c) ≡ vector → ((net : ℕ) → ¬ Contains (columns c) net → value_at columns_set net ≡ value_at zeros net)
      → values_at nets (register_nets c) ≡ state → ((net : ℕ) → ¬ Contains (register_nets c) net → value_at nets net ≡ value_at columns_set net)
      → IsSettledTo c state vector nets [] 0
  sources_settled state vector zeros columns_set nets sizes all_zero columns_are other_columns registers_are other_registers = record {
    one_each = sizes;
    column = map_agree (value_at nets) (value_at columns_set) (columns c) (λ j d inside. other_registers (get_or (columns c) j d) (column_no_register (get_or (columns c) j d) (Contains-get_or (columns c) j d inside))) ∙ columns_are;
    register = registers_are;
    undriven = λ net below free.
        other_registers net (λ r. free (Contains-append_right (columns c ++ outputs) (register_nets c) net r))
        ∙ (other_columns net (λ k. free (Contains-append_left (columns c ++ outputs) (register_nets c) net (Contains-append_left (columns c) outputs net k))) ∙ all_zero net);
    table = λ k d below. absurd (omega arith);
  }
