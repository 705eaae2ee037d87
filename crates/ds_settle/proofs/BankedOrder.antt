-- The tables of an order, set one after another by a bank.
use Rattle.std.proofs.Common.{◌≡◌, ℕ, zero, suc, ◌+◌, ◌<◌, ◌≤◌, List, [], ◌∷◌, length, get_or, drop, arith, ap, sym, ◌∙◌, subst}
use Rattle.std.specs.Prelude.{All}
use Rattle.std.proofs.lemmas.List.{drop_all, drop_more, get_or_default}
use Rattle.ds_base.specs.Values.{Row}
use Rattle.ds_cover.specs.Bank.{Driven, AreNetsWithin, after_table, after_tables, driven_at}
use Rattle.ds_design.specs.Accepted.{IsAccepted}
use Rattle.ds_design.specs.Banked.{IsBankOf}
use Rattle.ds_design.specs.Circuit.{Circuit}
use Rattle.ds_design.specs.InRange.{IsInRange}
use Rattle.ds_design.specs.Levels.{IsTableOrder}
use Rattle.ds_design.specs.Valuation.{IsValuation}
use Rattle.ds_design.specs.declared.design.Gate.{Gate}
use Rattle.ds_design.proofs.PackedTables.{after_table-is, within_at}
use Rattle.ds_settle.specs.Settle.{IsSettledTo}
use Rattle.ds_settle.proofs.OneTableMore.{settled_all, settled_more}

module _ (c : Circuit) (in_range : IsInRange c) (bank : List Driven) (banked : IsBankOf c.tables bank) where
  -- all packed tables read and drive nets of the design
  pub all_within : (nets : Row) → length nets ≡ length c.nets → All (λ t. AreNetsWithin t nets) bank
  all_within nets same k d inside =
      let gate : (d : Gate) → AreNetsWithin (driven_at bank k) nets = λ g. within_at c bank in_range banked nets same k g (let e : length bank ≡ length c.tables = banked.one_each in omega arith) in
      subst (λ (t : Driven). AreNetsWithin t nets) (get_or_default bank k _ d inside) (gate (record { table = record { inputs = []; rows = []; on = Rattle.std.proofs.Common.true }; output = 0; line = 0 }))

  pub all_places : (order : List ℕ) → IsTableOrder c order → All (λ k. k < length bank) order
  all_places order ordered i d inside = (let low : get_or order i d < length c.tables = ordered.places i d inside in let e : length bank ≡ length c.tables = banked.one_each in omega arith)

  module _ (accepted : IsAccepted c) (order : List ℕ) (ordered : IsTableOrder c order) (state vector : Row) where
    one_more : (nets : Row) (n : ℕ) (d : Gate) → n < length order → IsSettledTo c state vector nets order n → IsSettledTo c state vector (after_table bank nets (get_or order n 0)) order (n + 1)
    one_more nets n d inside so_far =
        let k = get_or order n 0 in
        let gate : Gate = get_or c.tables k d in
        let place : k < length c.tables = ordered.places n 0 inside in
        let low : gate.output < length nets = (let o : gate.output < length c.nets = (in_range.tables k d place).1 in let e : length nets ≡ length c.nets = so_far.one_each in omega arith) in
        subst (λ (ns : Row). IsSettledTo c state vector ns order (n + 1)) (sym (after_table-is c.tables bank banked nets k d place))
        (settled_more c accepted order ordered state vector nets n inside so_far gate low (get_or_default c.tables k d gate place))

    rest : (m n : ℕ) (nets : Row) → n + m ≡ length order → IsSettledTo c state vector nets order n → IsValuation c state vector (after_tables bank nets (drop n order))
    rest zero n nets all so_far =
        let none : drop n order ≡ [] = drop_all n order (omega arith) in
        subst (λ (ks : List ℕ). IsValuation c state vector (after_tables bank nets ks)) (sym none)
        (settled_all c accepted order ordered state vector nets (subst (λ (i : ℕ). IsSettledTo c state vector nets order i) (let e : n ≡ length order = omega arith in e) so_far))
    rest (suc m) n nets all so_far =
        let more : drop n order ≡ get_or order n 0 ∷ drop (n + 1) order = drop_more order n 0 (omega arith) in
        subst (λ (ks : List ℕ). IsValuation c state vector (after_tables bank nets ks)) (sym more)
        (rest m (n + 1) (after_table bank nets (get_or order n 0)) (omega arith)
        (one_more nets n (record { table = record { inputs = []; rows = []; on = Rattle.std.proofs.Common.true }; output = 0; line = 0 }) (omega arith) so_far))

    pub settled_by_bank : (nets : Row) → IsSettledTo c state vector nets [] 0 → IsValuation c state vector (after_tables bank nets order)
    settled_by_bank nets sources = rest (length order) 0 nets (omega arith) (record {
      one_each = sources.one_each;
      column = sources.column;
      register = sources.register;
      undriven = sources.undriven;
      table = λ k d below. absurd (omega arith);
    })
