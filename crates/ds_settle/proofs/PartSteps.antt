-- The tables of a cone, evaluated one by one.
use Rattle.std.proofs.Common.{◌≡◌, ◌≢◌, ◌∙◌, ℕ, ◌+◌, ◌<◌, List, [], ◌∷◌, ◌++◌, true, length, get_or, sym, ap, arith, inl, inr, subst, map, refl, append-nil, append_assoc, length-append}
use Rattle.std.specs.Prelude.{All, Contains}
use Rattle.std.proofs.Math.Seq.{get_or-append_seam}
use Rattle.std.proofs.Math.ListN.{set}
use Rattle.std.proofs.lemmas.Bool.{cases_eq}
use Rattle.std.proofs.lemmas.List.{get_or-set_same, length-set, get_or_default}
use Rattle.std.proofs.lemmas.List.Elements.{Contains-get_or}
use Rattle.ds_base.proofs.ListLemmas.{Contains-map}
use Rattle.ds_base.specs.Values.{Row}
use Rattle.ds_base.specs.declared.value.Value.TheVariants.{Zero}
use Rattle.ds_cover.specs.Bank.{Driven, AreNetsWithin, after_table, after_tables}
use Rattle.ds_cover.specs.Cover.{value_at, value_of}
use Rattle.ds_design.specs.Accepted.{IsAccepted}
use Rattle.ds_design.proofs.PackedTables.{after_table-is, within_at}
use Rattle.ds_design.specs.Banked.{IsBankOf}
use Rattle.ds_design.specs.Circuit.{Circuit}
use Rattle.ds_design.specs.InRange.{IsInRange}
use Rattle.ds_design.specs.declared.design.Gate.{Gate}
use Rattle.ds_settle.specs.Cone.{AreInOrder, IsPartSettled, net_of}
use Rattle.ds_settle.proofs.SetBits.{value_at-set_other}
use Rattle.ds_settle.proofs.OneTableMore.{value_kept}
use Rattle.ds_settle.proofs.CircuitTables.{net_is, same_table}

-- the first n tables are settled
record IsSettledSoFar (c : Circuit) (tables : List ℕ) (n : ℕ) (old new : Row) : Type 0 where
  same_length : length new ≡ length old
  settled : (j : ℕ) (d : Gate) → j < n → let t = get_or c.tables (get_or tables j 0) d in value_at new t.output ≡ value_of t.table new
  others : (net : ℕ) → ((j : ℕ) → j < n → net_of c (get_or tables j 0) ≢ net) → value_at new net ≡ value_at old net

module _ (c : Circuit) (range : IsInRange c) (accepted : IsAccepted c) (tables : List ℕ) (order : AreInOrder c tables) (old nets : Row) (sizes : length nets ≡ length c.nets) where
  module _ (n : ℕ) (inside : n < length tables) (so_far : IsSettledSoFar c tables n old nets) (gate : Gate) (gate_is : gate ≡ get_or c.tables (get_or tables n 0) gate) where
    within : (j : ℕ) → j < length tables → get_or tables j 0 < length c.tables
    within j below = order.within j 0 below

    at_place : (d : Gate) → get_or c.tables (get_or tables n 0) d ≡ gate
    at_place d = get_or_default c.tables (get_or tables n 0) d gate (within n inside) ∙ sym gate_is

    output_within : gate.output < length nets
    output_within =
        let low : (get_or c.tables (get_or tables n 0) gate).output < length c.nets = (range.tables (get_or tables n 0) gate (within n inside)).1 in
        let same : gate.output ≡ (get_or c.tables (get_or tables n 0) gate).output = ap (λ (t : Gate). t.output) gate_is in
        omega arith

    abbrev after : Row
    after = set nets gate.output (value_of gate.table nets)

    kept : (j : ℕ) (d : Gate) → j < n + 1 → value_of (get_or c.tables (get_or tables j 0) d).table after ≡ value_of (get_or c.tables (get_or tables j 0) d).table nets
    kept j d below =
        let t : Gate = get_or c.tables (get_or tables j 0) d in
        value_kept c accepted t.table nets gate.output (value_of gate.table nets)
        (subst (λ (u : Gate). ¬ Contains t.table.inputs u.output) (at_place d) (order.before j n d (omega arith) inside))

    settled_after : (j : ℕ) (d : Gate) → j < n + 1 → value_at after (get_or c.tables (get_or tables j 0) d).output ≡ value_of (get_or c.tables (get_or tables j 0) d).table after
    settled_after j d below =
        let t : Gate = get_or c.tables (get_or tables j 0) d in
        elim (cases_eq t.output gate.output) [
          | inl e ↦
              (let low : j < length tables = omega arith in
              let net : net_of c (get_or tables j 0) ≡ net_of c (get_or tables n 0) =
              net_is c (get_or tables j 0) d (within j low) ∙ (e ∙ sym (net_is c (get_or tables n 0) d (within n inside) ∙ ap (λ (u : Gate). u.output) (at_place d))) in
              let place : get_or tables j 0 ≡ get_or tables n 0 = same_table c accepted (get_or tables j 0) (get_or tables n 0) (within j low) (within n inside) net in
              let same : t ≡ gate = ap (λ (k : ℕ). get_or c.tables k d) place ∙ at_place d in
              ap (value_at after) e
              ∙ (get_or-set_same nets gate.output (value_of gate.table nets) Zero output_within
              ∙ (ap (λ (u : Gate). value_of u.table nets) (sym same) ∙ sym (kept j d below))))
          | inr ne ↦
              elim (cases_eq j n) [
                | inl e ↦ absurd (ne (ap (λ (k : ℕ). (get_or c.tables (get_or tables k 0) d).output) e ∙ ap (λ (u : Gate). u.output) (at_place d)))
                | inr other ↦ value_at-set_other nets gate.output t.output (value_of gate.table nets) ne ∙ (so_far.settled j d (omega arith) ∙ sym (kept j d below))
              ]
        ]

    part_more : IsSettledSoFar c tables (n + 1) old after
    part_more = record {
      same_length = length-set nets gate.output (value_of gate.table nets) ∙ so_far.same_length;
      settled = settled_after;
      others = λ net free.
          value_at-set_other nets gate.output net (value_of gate.table nets)
          (λ e. free n (omega arith) (net_is c (get_or tables n 0) gate (within n inside) ∙ (ap (λ (u : Gate). u.output) (at_place gate) ∙ sym e)))
          ∙ so_far.others net (λ j low. free j (omega arith));
    }

-- all tables are settled
module _ (c : Circuit) (tables : List ℕ) (old nets : Row) where
  part_all : (sources : List ℕ) → IsSettledSoFar c tables (length tables) old nets → IsPartSettled c (record { tables = tables; sources = sources }) old nets
  part_all sources done = record {
    same_length = done.same_length;
    settled = λ k d (j, low, is).
        let place : get_or tables j 0 ≡ k = get_or_default tables j 0 k low ∙ is in
        subst (λ (p : ℕ). value_at nets (get_or c.tables p d).output ≡ value_of (get_or c.tables p d).table nets) place (done.settled j d low);
    others = λ net free. done.others net (λ j low e. free (subst (λ (x : ℕ). Contains (map (net_of c) tables) x) e (Contains-map (net_of c) tables (get_or tables j 0) (Contains-get_or tables j 0 low))));
  }

-- stands for a table where there is none
no_gate : Gate
no_gate = record { table = record { inputs = []; rows = []; on = true }; output = 0; line = 0 }

module _ (c : Circuit) (range : IsInRange c) (accepted : IsAccepted c) (tables : List ℕ) (order : AreInOrder c tables) (old : Row) (bank : List Driven) (is_bank : IsBankOf c.tables bank) where
  -- before the first table
  so_far_none : IsSettledSoFar c tables 0 old old
  so_far_none = record { same_length = refl; settled = λ j d low. absurd (omega arith); others = λ net free. refl }

  so_far_rest : (rest done : List ℕ) (nets : Row) → tables ≡ done ++ rest → length nets ≡ length c.nets → IsSettledSoFar c tables (length done) old nets → IsSettledSoFar c tables (length tables) old (after_tables bank nets rest)
  so_far_rest [] done nets split sizes so_far =
      let all : length done ≡ length tables = ap (λ (ts : List ℕ). length ts) (sym (split ∙ append-nil done)) in
      subst (λ (n : ℕ). IsSettledSoFar c tables n old nets) all so_far
  so_far_rest (k ∷ ks) done nets split sizes so_far =
      let inside : length done < length tables = omega (arith, ap (λ (ts : List ℕ). length ts) split, length-append done (k ∷ ks)) in
      let here : get_or tables (length done) 0 ≡ k = ap (λ (ts : List ℕ). get_or ts (length done) 0) split ∙ get_or-append_seam done k ks 0 in
      let low : k < length c.tables = subst (λ (n : ℕ). n < length c.tables) here (order.within (length done) 0 inside) in
      let gate : Gate = get_or c.tables k no_gate in
      let gate_is : gate ≡ get_or c.tables (get_or tables (length done) 0) gate = get_or_default c.tables k no_gate gate low ∙ ap (λ (p : ℕ). get_or c.tables p gate) (sym here) in
      let set_is : after_table bank nets k ≡ set nets gate.output (value_of gate.table nets) = after_table-is c.tables bank is_bank nets k no_gate low in
      let next : IsSettledSoFar c tables (length done + 1) old (after_table bank nets k) =
      subst (IsSettledSoFar c tables (length done + 1) old) (sym set_is) (part_more c range accepted tables order old nets sizes (length done) inside so_far gate gate_is) in
      let long : length (done ++ k ∷ []) ≡ length done + 1 = length-append done (k ∷ []) in
      so_far_rest ks (done ++ k ∷ []) (after_table bank nets k) (split ∙ sym (append_assoc done (k ∷ []) ks))
      (ap (λ (ns : Row). length ns) set_is ∙ (length-set nets gate.output (value_of gate.table nets) ∙ sizes))
      (subst (λ (n : ℕ). IsSettledSoFar c tables n old (after_table bank nets k)) (sym long) next)

  pub part_is : (sources : List ℕ) → length old ≡ length c.nets → IsPartSettled c (record { tables = tables; sources = sources }) old (after_tables bank old tables)
  part_is sources sizes = part_all c tables old (after_tables bank old tables) sources (so_far_rest tables [] old refl sizes so_far_none)

  -- each packed table reads and drives nets that are there
  pub bank_within : length old ≡ length c.nets → All (λ t. AreNetsWithin t old) bank
  bank_within sizes k d inside =
      subst (λ (t : Driven). AreNetsWithin t old) (get_or_default bank k _ d inside) (within_at c bank range is_bank old sizes k no_gate (subst (λ (n : ℕ). k < n) is_bank.one_each inside))

  pub places_within : All (λ k. k < length bank) tables
  places_within i d inside = subst (λ (n : ℕ). get_or tables i d < n) (sym is_bank.one_each) (order.within i d inside)
