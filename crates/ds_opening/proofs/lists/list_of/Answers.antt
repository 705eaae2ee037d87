use Rattle.std.proofs.Common.{List, ℕ, subst, sym}
use Rattle.std.specs.List.Sorted.{IsPermutation}
use Rattle.std.proofs.lemmas.List.Sorted.{IsNonDecreasingBy-from_sort}
use Rattle.ds_opening.specs.Lists.{IsListOf}
use Rattle.ds_opening.proofs.FoundTables.{found_sorted}
use Rattle.ds_opening.proofs.lists.list_of.Goals as goal

pub returns-clause-ok : goal.returns-clause-ok
returns-clause-ok c =
    let sorted : List ℕ = c.sort_unstable.new.self.items in
    subst (λ (xs : List ℕ). IsListOf c.args.tables.now c.args.of.now xs) (sym c.of.ensures)
    (found_sorted c.args.tables.now c.args.of.now c.in_ok-found.field-0 sorted c.in_ok-found.ensures.ok
    (subst (λ (xs : List ℕ). IsPermutation xs sorted) c.into_vec-list.ensures c.sort_unstable.ensures.permutation)
    (IsNonDecreasingBy-from_sort (λ x. x) sorted c.sort_unstable.ensures.sorted))
