use Rattle.std.proofs.Common.{◌≡◌, ◌∙◌, ◌<◌, ℕ, List, length, sym, subst}
use Rattle.std.specs.Prelude.{All}
use Rattle.std.specs.List.{range_with_len}
use Rattle.std.proofs.lemmas.Result.{IfOk-weaker}
use Rattle.ds_design.specs.Levels.{IsSortedByLevel}
use Rattle.ds_netlist.proofs.TablesByLevel.{range_below}
use Rattle.ds_feedback.proofs.order.order_of.Goals as goal

pub by_level-requires-clause-within : goal.by_level-requires-clause-within
by_level-requires-clause-within c =
    let count : ℕ = length c.args.links.now in
    let are : c.as_slice.result.now ≡ range_with_len 0 count = c.as_slice.ensures.value ∙ c.in_ok-places.ensures.ok in
    subst (λ (ps : List ℕ). All (λ k. k < count) ps) (sym are) (range_below count)

pub returns : goal.returns
returns c =
    let count : ℕ = length c.args.links.now in
    let are : c.as_slice.result.now ≡ range_with_len 0 count = c.as_slice.ensures.value ∙ c.in_ok-places.ensures.ok in
    record {
      ok = IfOk-weaker c.by_level.result (λ v. IsSortedByLevel c.args.links.now c.args.ranks.now c.as_slice.result.now v.items)
          (λ v. IsSortedByLevel c.args.links.now c.args.ranks.now (range_with_len 0 count) v.items)
          (λ v h. subst (λ (ps : List ℕ). IsSortedByLevel c.args.links.now c.args.ranks.now ps v.items) are h) c.by_level.ensures;
    }
