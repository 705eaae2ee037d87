use Rattle.std.proofs.Common.{ℕ, ◌<◌, List, length, sym, subst}
use Rattle.std.specs.List.{range_with_len}
use Rattle.std.specs.List.Sorted.{IsPermutation}
use Rattle.std.proofs.lemmas.List.Sorted.{All-permutation, IsPermutation-trans}
use Rattle.std.proofs.lemmas.Result.{IfOk-weaker}
use Rattle.ds_design.specs.Levels.{IsSortedByLevel}
use Rattle.ds_netlist.proofs.TablesByLevel.{range_below}
use Rattle.ds_netlist.proofs.order.table_order.Goals as goal

pub by_level-requires-clause-within : goal.by_level-requires-clause-within
by_level-requires-clause-within c =
    let count : ℕ = length c.args.tables.now in
    let permuted : IsPermutation (range_with_len 0 count) c.as_slice.result.now =
    subst (IsPermutation (range_with_len 0 count)) (sym c.as_slice.ensures.value) c.in_ok-places.ensures.ok in
    All-permutation (λ k. k < count) (range_with_len 0 count) c.as_slice.result.now permuted (range_below count)

pub returns : goal.returns
returns c =
    let tables = c.args.tables.now in
    let levels = c.args.levels.now in
    let count : ℕ = length tables in
    let lent : List ℕ = c.as_slice.result.now in
    let permuted : IsPermutation (range_with_len 0 count) lent =
    subst (IsPermutation (range_with_len 0 count)) (sym c.as_slice.ensures.value) c.in_ok-places.ensures.ok in
    record {
      ok = IfOk-weaker c.by_level.result (λ v. IsSortedByLevel tables levels lent v.items) (λ v. IsSortedByLevel tables levels (range_with_len 0 count) v.items)
          (λ v h. record {
            permuted = IsPermutation-trans (range_with_len 0 count) lent v.items permuted h.permuted;
            rising = h.rising;
          }) c.by_level.ensures;
    }
