use Rattle.std.proofs.Common.{◌≡◌, ◌∙◌, List, map, sym, ap, subst}
use Rattle.std.specs.List.Sorted.{IsPermutation}
use Rattle.std.proofs.lemmas.Result.{IfOk-weaker}
use Rattle.ds_design.specs.Levels.{IsSortedByLevel}
use Rattle.ds_design.specs.Placed.{placed_table}
use Rattle.ds_design.specs.declared.order.Placed.{Placed}
use Rattle.ds_design.proofs.ByLevel.{sorted_from}
use Rattle.ds_design.proofs.order.by_level.Goals as goal

pub returns : goal.returns
returns c =
    let tables = c.args.tables.now in
    let levels = c.args.levels.now in
    let places = c.args.places.now in
    let all : List Placed = c.sort_by_level.new.all.items in
    let permuted : IsPermutation (map (placed_table tables levels) places) all =
    subst (λ (xs : List Placed). IsPermutation xs all) c.in_ok-all.ensures c.in_ok-sort_by_level.ensures.permuted in
    let sorted = sorted_from tables levels places all permuted c.in_ok-sort_by_level.ensures.rising in
    IfOk-weaker c.places_of.result (λ v. v.items ≡ map (λ (p : Placed). p.place) c.as_slice.result.now) (λ v. IsSortedByLevel tables levels places v.items)
    (λ v is. subst (IsSortedByLevel tables levels places) (sym (is ∙ ap (map (λ (p : Placed). p.place)) c.as_slice.ensures.value)) sorted) c.places_of.ensures
