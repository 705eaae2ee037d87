use Rattle.std.proofs.Common.{ℕ, List, subst}
use Rattle.std.specs.List.Sorted.{IsPermutation}
use Rattle.ds_netlist.proofs.order.by_width.Goals as goal

pub returns : goal.returns
returns c = record {
  ok = subst (λ (xs : List ℕ). IsPermutation xs c.sort_by_key.new.self.items) c.in_ok-places.ensures.ok c.in_ok-sort_by_key.ensures.permutation;
}
