-- A row of registers that shows what the slaves show.
use Rattle.std.proofs.Common.{◌≡◌, ◌≢◌, ◌∙◌, ℕ, zero, suc, ◌<◌, ◌≤◌, List, [], ◌∷◌, length, get_or, map, ◌⊎◌, inl, inr, refl, arith, ap, sym, subst}
use Rattle.std.specs.Prelude.{AllPairs, Any, Contains}
use Rattle.std.specs.List.{flat_map, range_with_len}
use Rattle.std.proofs.lemmas.Bool.{cases_eq, cases_lt}
use Rattle.std.proofs.lemmas.List.{get_or-map, length-map, get_or_default, ext_get_or}
use Rattle.std.proofs.lemmas.List.FromFn.{length-map-range_with_len, get_or-map-range_with_len}
use Rattle.std.proofs.lemmas.List.Elements.{Contains-append_left, Contains-append_right}
use Rattle.ds_base.proofs.AppendedPairs.{pairs-left, pairs-right, pairs-between}
use Rattle.ds_base.specs.Values.{Row}
use Rattle.ds_base.specs.declared.value.Value.{Value}
use Rattle.ds_base.specs.declared.value.Value.TheVariants.{Zero}
use Rattle.ds_cover.specs.Cover.{value_at, values_at}
use Rattle.ds_latch.specs.Node.{Split, members}
use Rattle.ds_latch.specs.declared.node.Node.{Node}
use Rattle.ds_latch.specs.declared.node.Node.TheVariants.{Slave}
use Rattle.ds_latch.specs.Plan.{IsSplit}
use Rattle.ds_latch.specs.Firing.{AreRegisters}

-- all of these lists, one after the other
abbrev flat : List (List ℕ) → List ℕ
flat clusters = flat_map (λ registers. registers) clusters

contains_flat : (clusters : List (List ℕ)) (i r : ℕ) → i < length clusters → Contains (get_or clusters i []) r → Contains (flat clusters) r
contains_flat [] i r inside has = absurd (omega arith)
contains_flat (c ∷ cs) zero r inside has = Contains-append_left c (flat cs) r has
contains_flat (c ∷ cs) (suc i) r inside has = Contains-append_right c (flat cs) r (contains_flat cs i r (omega arith) has)

-- no number stands in two of the lists
apart : (clusters : List (List ℕ)) → AllPairs (λ a b. a ≢ b) (flat clusters) → (d i r : ℕ) → d < length clusters → i < length clusters → Contains (get_or clusters d []) r → Contains (get_or clusters i []) r → d ≡ i
apart [] once d i r low inside one two = absurd (omega arith)
apart (c ∷ cs) once zero zero r low inside one two = refl
apart (c ∷ cs) once zero (suc i) r low inside one two = absurd (pairs-between c (flat cs) once r one (contains_flat cs i r (omega arith) two))
apart (c ∷ cs) once (suc d) zero r low inside one two = absurd (pairs-between c (flat cs) once r two (contains_flat cs d r (omega arith) one))
apart (c ∷ cs) once (suc d) (suc i) r low inside one two = ap suc (apart cs (pairs-right c (flat cs) once) d i r (omega arith) (omega arith) one two)

once_in : (clusters : List (List ℕ)) → AllPairs (λ a b. a ≢ b) (flat clusters) → (i : ℕ) → i < length clusters → AllPairs (λ a b. a ≢ b) (get_or clusters i [])
once_in [] once i inside = absurd (omega arith)
once_in (c ∷ cs) once zero inside = pairs-left c (flat cs) once
once_in (c ∷ cs) once (suc i) inside = once_in cs (pairs-right c (flat cs) once) i (omega arith)

-- a number stands at one place of a list without repeats
same_place : (these : List ℕ) → AllPairs (λ a b. a ≢ b) these → (j k r : ℕ) → j < length these → k < length these → get_or these j r ≡ r → get_or these k r ≡ r → j ≡ k
same_place these once j k r inside within at here =
    let e : get_or these j 0 ≡ get_or these k 0 = get_or_default these j 0 r inside ∙ (at ∙ (sym here ∙ get_or_default these k r 0 within)) in
    elim (cases_eq j k) [
      | inl same ↦ same
      | inr ne ↦ absurd (elim (cases_lt j k) [ inl below ↦ once j k 0 below within e | inr above ↦ once k j 0 (omega arith) inside (sym e) ])
    ]

module _ (s : Split) (split : IsSplit s) (shown : Node → Row) (widths : (i : ℕ) → i < length s.clusters → length (shown (Slave i)) ≡ length (members s i)) where
  -- what the slave shows that has a register
  kept_value : {r : ℕ} → Any (λ registers. Contains registers r) s.clusters → Value
  kept_value (d, cluster, inside, is, (j, within, at)) = get_or (shown (Slave d)) j Zero

  kept_is : (r : ℕ) (any : Any (λ registers. Contains registers r) s.clusters) (i k : ℕ) → i < length s.clusters → k < length (members s i) → get_or (members s i) k r ≡ r → kept_value any ≡ get_or (shown (Slave i)) k Zero
  unfolding kept_value
  kept_is r (d, cluster, inside, is, (j, within, at)) i k is_cluster below here =
      let cluster_is : cluster ≡ members s d = sym is ∙ get_or_default s.clusters d cluster [] inside in
      let at_d : get_or (members s d) j r ≡ r = subst (λ (rs : List ℕ). get_or rs j r ≡ r) cluster_is at in
      let in_d : j < length (members s d) = subst (λ (rs : List ℕ). j < length rs) cluster_is within in
      let same : d ≡ i = apart s.clusters split.once d i r inside is_cluster (j, in_d, at_d) (k, below, here) in
      let at_i : get_or (members s i) j r ≡ r = subst (λ (n : ℕ). get_or (members s n) j r ≡ r) same at_d in
      let in_i : j < length (members s i) = subst (λ (n : ℕ). j < length (members s n)) same in_d in
      let place : j ≡ k = same_place (members s i) (once_in s.clusters split.once i is_cluster) j k r in_i below at_i here in
      ap (λ (n : ℕ). get_or (shown (Slave n)) j Zero) same ∙ ap (λ (p : ℕ). get_or (shown (Slave i)) p Zero) place

  value_of_register : (r : ℕ) → (r < length s.circuit.registers) ⊎ (length s.circuit.registers ≤ r) → Value
  value_of_register r (inl low) = kept_value (split.covered r low)
  value_of_register r (inr past) = Zero

  value_is : (r : ℕ) (low : (r < length s.circuit.registers) ⊎ (length s.circuit.registers ≤ r)) → r < length s.circuit.registers → (i k : ℕ) → i < length s.clusters → k < length (members s i) → get_or (members s i) k r ≡ r → value_of_register r low ≡ get_or (shown (Slave i)) k Zero
  unfolding value_of_register
  value_is r (inl low) inside i k is_cluster below here = kept_is r (split.covered r low) i k is_cluster below here
  value_is r (inr past) inside i k is_cluster below here = absurd (omega arith)

  register_at : ℕ → Value
  register_at r = value_of_register r (cases_lt r (length s.circuit.registers))

  registers : Row
  registers = map register_at (range_with_len 0 (length s.circuit.registers))

  long : length registers ≡ length s.circuit.registers
  unfolding registers
  long = length-map-range_with_len register_at 0 (length s.circuit.registers)

  read : (r : ℕ) → r < length s.circuit.registers → value_at registers r ≡ register_at r
  unfolding registers
  read r inside = get_or-map-range_with_len register_at 0 (length s.circuit.registers) r r Zero inside (omega arith)

  shows : (i : ℕ) → i < length s.clusters → values_at registers (members s i) ≡ shown (Slave i)
  unfolding register_at
  shows i is_cluster =
      let sizes : length (values_at registers (members s i)) ≡ length (members s i) = length-map (members s i) (value_at registers) in
      let wide : length (shown (Slave i)) ≡ length (members s i) = widths i is_cluster in
      ext_get_or Zero (values_at registers (members s i)) (shown (Slave i)) (sizes ∙ sym wide) (λ k below.
      let inside : k < length (members s i) = omega arith in
      let r : ℕ = get_or (members s i) k 0 in
      let is_register : get_or (members s i) k 0 < length s.circuit.registers = split.within i [] is_cluster k 0 inside in
      get_or-map (value_at registers) (members s i) k 0 Zero inside
      ∙ (read r is_register ∙ value_is r (cases_lt r (length s.circuit.registers)) is_register i k is_cluster inside (get_or_default (members s i) k r 0 inside)))

  pub some_registers : (state : Row) × AreRegisters s shown state
  some_registers = (registers, (long, shows))
