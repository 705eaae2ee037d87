use Rattle.std.proofs.Common.{◌≡◌, ◌∙◌, ◌<◌, ℕ, List, length, sym, ap, subst}
use Rattle.std.specs.Prelude.{All}
use Rattle.std.proofs.lemmas.Result.{IfOk-weaker}
use Rattle.ds_opening.specs.Ranked.{AreSortedByRank}
use Rattle.ds_opening.proofs.Lacks.{lacked_from}
use Rattle.ds_opening.proofs.lacking.by_lacking.Goals as goal

pub by_rank-requires : goal.by_rank-requires
by_rank-requires c =
    let size : length c.as_slice.result.now ≡ c.args.tables = ap (λ (ns : List ℕ). length ns) c.as_slice.ensures.value ∙ c.in_ok-lacking.ensures.ok.one_each in
    subst (λ (m : ℕ). All (λ k. k < m) c.args.order.now) (sym size) c.requires.order

pub returns : goal.returns
returns c = record {
  ok = IfOk-weaker c.by_rank.result _ _
      (λ v is. lacked_from c.args.cones.now c.args.tables c.in_ok-lacking.lacking.items c.args.order.now v.items c.in_ok-lacking.ensures.ok c.requires.order
      (subst (λ (ns : List ℕ). AreSortedByRank ns c.args.order.now v.items) c.as_slice.ensures.value is)) c.by_rank.ensures.ok;
}
