-- The nets that an order of the tables gives are the valuation, so the computed turns are the run.
use Rattle.std.proofs.Common.{◌≡◌, ◌∙◌, ℕ, zero, suc, ◌+◌, ◌-◌, ◌<◌, List, [], ◌∷◌, Option, length, get_or, drop, replicate, slice_get, refl, ap, sym, subst, arith, inl, inr, add-one}
use Rattle.std.specs.Prelude.{All}
use Rattle.std.proofs.lemmas.List.{length-drop, length-map, length-replicate}
use Rattle.std.proofs.lemmas.List.Elements.{All-map}
use Rattle.std.proofs.lemmas.Option.{slice_get_cases}
use Rattle.std.proofs.Math.Seq.{drop-cons}
use Rattle.ds_base.specs.Values.{Row}
use Rattle.ds_base.specs.declared.value.Value.TheVariants.{Zero}
use Rattle.ds_cover.specs.Cover.{value_at, values_at}
use Rattle.ds_design.specs.Circuit.{Circuit, columns, data_nets, register_nets}
use Rattle.ds_design.specs.InRange.{IsInRange}
use Rattle.ds_design.specs.Accepted.{IsAccepted}
use Rattle.ds_design.specs.Levels.{IsTableOrder}
use Rattle.ds_design.specs.Run.{row_at}
use Rattle.ds_design.specs.Valuation.{IsValuation}
use Rattle.ds_design.specs.declared.design.Gate.{Gate}
use Rattle.ds_design.specs.declared.design.Register.{Register}
use Rattle.ds_settle.specs.Settle.{IsSettledTo}
use Rattle.ds_settle.proofs.OneTableMore.{column_once, columns_in_range, register_once, settled_all, settled_more, sources_settled}
use Rattle.ds_opening.specs.Foreseen.{ForeseesRun, all_driven, driven, given, nets_in, settled_by, state_before}
use Rattle.ds_opening.proofs.Given.{all_zero, given_long, given_others, given_values}

module _ (c : Circuit) (range : IsInRange c) (accepted : IsAccepted c)
    (order : List ℕ) (ordered : IsTableOrder c order) (state vector : Row) where
  -- one table more
  one_more : (k n : ℕ) (nets : Row) → n < length order → k ≡ get_or order n 0
      → IsSettledTo c state vector nets order n
      → IsSettledTo c state vector (driven (slice_get c.tables k) nets) order (n + 1)
  one_more k n nets inside first so_far = elim ((slice_get_cases c.tables k).1) [
    | inl (gate, low, found, is) ↦
        (let size : length nets ≡ length c.nets = so_far.one_each in
        let near : gate.output < length c.nets =
        subst (λ (t : Gate). t.output < length c.nets) is (range.tables k gate low).1 in
        let gate_is : gate ≡ get_or c.tables (get_or order n 0) gate =
        sym is ∙ ap (λ (m : ℕ). get_or c.tables m gate) first in
        subst (λ (g : Option Gate). IsSettledTo c state vector (driven g nets) order (n + 1))
        (sym found)
        (settled_more c accepted order ordered state vector nets n inside so_far gate
        (omega (size, near, arith)) gate_is))
    | inr (past, none) ↦
        (let there : get_or order n 0 < length c.tables = ordered.places n 0 inside in
        absurd (omega (there, past, first, arith)))
  ]

  -- the tables that are left, from a place of the order on
  settled_from : (rest : List ℕ) (n : ℕ) (nets : Row) → rest ≡ drop n order
      → IsSettledTo c state vector nets order n
      → IsSettledTo c state vector (all_driven c.tables rest nets) order (length order)
  settled_from [] n nets left so_far =
      let none : 0 ≡ length order - n =
      ap (λ (xs : List ℕ). length xs) left ∙ length-drop n order in
      record {
        one_each = so_far.one_each;
        column = so_far.column;
        register = so_far.register;
        undriven = so_far.undriven;
        table = λ k d below. so_far.table k d (omega (none, below, arith));
      }
  settled_from (k ∷ rest) n nets left so_far =
      let long : suc (length rest) ≡ length order - n =
      ap (λ (xs : List ℕ). length xs) left ∙ length-drop n order in
      let inside : n < length order = omega (long, arith) in
      let next : k ∷ rest ≡ get_or order n 0 ∷ drop (suc n) order =
      left ∙ drop-cons order n 0 inside in
      let first : k ≡ get_or order n 0 = ap (λ (xs : List ℕ). get_or xs 0 0) next in
      let up : suc n ≡ n + 1 = omega arith in
      let others : rest ≡ drop (n + 1) order =
      ap (λ (xs : List ℕ). drop 1 xs) next ∙ ap (λ (m : ℕ). drop m order) up in
      settled_from rest (n + 1) (driven (slice_get c.tables k) nets) others
      (one_more k n nets inside first so_far)

  abbrev zeros : Row
  zeros = replicate (length c.nets) Zero

  abbrev columns_given : Row
  columns_given = given (columns c) vector zeros

  abbrev sources_given : Row
  sources_given = given (register_nets c) state columns_given

  module _ (states : length state ≡ length c.registers)
      (vectors : length vector ≡ length (columns c)) where
    zeros_long : length zeros ≡ length c.nets
    zeros_long = length-replicate (length c.nets) Zero

    columns_long : length columns_given ≡ length c.nets
    columns_long = given_long (columns c) vector zeros ∙ zeros_long

    columns_are : values_at columns_given (columns c) ≡ vector
    columns_are = given_values (columns c) vector zeros vectors (column_once c accepted)
        (subst (λ (m : ℕ). All (λ net. net < m) (columns c)) (sym zeros_long)
        (columns_in_range c accepted range))

    registers_in_range : All (λ net. net < length c.nets) (register_nets c)
    registers_in_range = All-map (λ net. net < length c.nets) (λ (r : Register). r.output)
        c.registers (λ k d inside. (range.registers k d inside).1)

    registers_are : values_at sources_given (register_nets c) ≡ state
    registers_are = given_values (register_nets c) state columns_given
        (states ∙ sym (length-map c.registers (λ (r : Register). r.output)))
        (register_once c accepted)
        (subst (λ (m : ℕ). All (λ net. net < m) (register_nets c)) (sym columns_long)
        registers_in_range)

    none_settled : IsSettledTo c state vector sources_given order 0
    none_settled =
        let all : IsSettledTo c state vector sources_given [] 0 =
        sources_settled c accepted state vector zeros columns_given sources_given
        (given_long (register_nets c) state columns_given ∙ columns_long)
        (all_zero (length c.nets))
        columns_are (given_others (columns c) vector zeros)
        registers_are (given_others (register_nets c) state columns_given) in
        record {
          one_each = all.one_each;
          column = all.column;
          register = all.register;
          undriven = all.undriven;
          table = λ k d below. absurd (omega (below, arith));
        }

    settled_by-valuation : IsValuation c state vector (settled_by c order state vector)
    settled_by-valuation = settled_all c accepted order ordered state vector
        (settled_by c order state vector) (settled_from order 0 sources_given refl none_settled)

-- a state has a value for each register
state_long : (c : Circuit) (order : List ℕ) (start : Row) (vectors : List Row)
    → length start ≡ length c.registers → (k : ℕ)
    → length (state_before c order start vectors k) ≡ length c.registers
state_long c order start vectors long zero = long
state_long c order start vectors long (suc k) =
    length-map (data_nets c) (value_at (nets_in c order start vectors k))
    ∙ length-map c.registers (λ (r : Register). r.data_net)

pub foresees_run_lem : ForeseesRun
foresees_run_lem c order range accepted ordered start vectors long wide = record {
  starts = refl;
  settles = λ k below.
      settled_by-valuation c range accepted order ordered (state_before c order start vectors k)
      (row_at vectors k) (state_long c order start vectors long k) (wide k [] below);
  steps = λ k below. ap (state_before c order start vectors) (add-one k);
}
