use Rattle.std.proofs.Common.{◌≡◌, ◌∙◌, ℕ, List, map, sym, ap, subst}
use Rattle.std.specs.List.Sorted.{IsPermutation}
use Rattle.ds_opening.specs.Ranked.{AreSortedByRank, ranked_of}
use Rattle.ds_opening.specs.declared.ranked.TableRank.{TableRank}
use Rattle.ds_opening.proofs.TablesByRank.{ranked_from}
use Rattle.ds_opening.proofs.ranked.by_rank.Goals as goal

pub returns : goal.returns
returns c =
    let order : List ℕ = c.args.order.now in
    let ranks : List ℕ = c.args.ranks.now in
    let all : List TableRank = c.sort_by_rank.new.all.items in
    let permuted : IsPermutation (map (ranked_of ranks) order) all =
    subst (λ (xs : List TableRank). IsPermutation xs all) c.in_ok-all.ensures c.in_ok-sort_by_rank.ensures.permuted in
    let tables_are : c.in_ok-tables_of.field-0.items ≡ map (λ (r : TableRank). r.table) all =
    c.in_ok-tables_of.ensures ∙ ap (λ (rs : List TableRank). map (λ (r : TableRank). r.table) rs) c.as_slice.ensures.value in
    record { ok = subst (AreSortedByRank ranks order) (sym tables_are) (ranked_from ranks order all permuted c.in_ok-sort_by_rank.ensures.rising) }
