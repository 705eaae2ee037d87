-- The tables of a run by their numbers.
use Rattle.std.proofs.Common.{◌≡◌, ◌-◌, ◌∙◌, ℕ, List, take, drop, ap, sym}
use Rattle.std.proofs.lemmas.List.{drop-map, take-map}
use Rattle.ds_base.specs.Values.{Row}
use Rattle.ds_cover.specs.Bank.{Driven, after_tables, driven_at}
use Rattle.ds_cover.specs.Series.{after_each, in_table_order, numbers_in, own_tables}
use Rattle.ds_cover.specs.declared.run.Run.{Run}
use Rattle.ds_cover.proofs.Known.{after_order}

-- the tables of a run by their numbers
pub own_in_order : (bank : List Driven) (order : List ℕ) (run : Run) → own_tables (in_table_order bank order) run ≡ in_table_order bank (numbers_in order run)
own_in_order bank order run =
    let count : ℕ = run.end - run.first in
    ap (take count) (drop-map (driven_at bank) run.at order) ∙ take-map (driven_at bank) count (drop run.at order)

pub run_after : (bank : List Driven) (order : List ℕ) (run : Run) (nets : Row) → after_each (own_tables (in_table_order bank order) run) nets ≡ after_tables bank nets (numbers_in order run)
run_after bank order run nets =
    ap (λ (ts : List Driven). after_each ts nets) (own_in_order bank order run) ∙ after_order bank (numbers_in order run) nets

pub order_after : (bank : List Driven) (order numbers : List ℕ) (run : Run) (nets nets' : Row) → numbers ≡ numbers_in order run
    → nets' ≡ after_tables bank nets numbers → nets' ≡ after_each (own_tables (in_table_order bank order) run) nets
order_after bank order numbers run nets nets' own is =
    is ∙ (ap (λ (ns : List ℕ). after_tables bank nets ns) own ∙ sym (run_after bank order run nets))
