use Rattle.std.proofs.Common.{◌≡◌, ℕ, List, [], ◌∷◌, ◌++◌, ◌+◌, ◌<◌, get_or, subst, sym, arith, length-set, ◌∙◌, ap}
use Rattle.std.proofs.lemmas.List.{get_or_default}
use Rattle.std.proofs.Math.ListN.{set}
use Rattle.ds_rank.specs.Order.{target_at}
use Rattle.ds_rank.specs.Search.{IsLinkedTo}
use Rattle.ds_rank.proofs.EdgeChains.{links_more}
use Rattle.ds_rank.proofs.links.links.Goals as goal

pub loop-k-preserved : goal.loop-k-preserved
loop-k-preserved c =
    let t = target_at c.args.edges.now c.loop-k.k in
    let pushed : c.push.new.self.items ≡ c.loop-k.link.items ++ get_or c.loop-k.heads.items (target_at c.args.edges.now c.loop-k.k) 0 ∷ [] = c.in_ok-push.ensures.items
    ∙ ap (λ (x : ℕ). c.loop-k.link.items ++ x ∷ [])
    (c.index.ensures ∙ get_or_default c.loop-k.heads.items t c.index.result.now 0
    (let own : t < c.args.count = (c.requires.ends c.loop-k.k c.loop-k-test.true).1 in omega (arith, c.loop-k.invariant.size))) in
    record {
      size = length-set c.loop-k.heads.items t (c.loop-k.k + 1) ∙ c.loop-k.invariant.size;
      linked = subst (λ (link : List ℕ). IsLinkedTo c.args.count c.args.edges.now (c.loop-k.k + 1) (set c.loop-k.heads.items t (c.loop-k.k + 1)) link)
          (sym pushed)
          (links_more c.args.count c.args.edges.now c.loop-k.k c.loop-k.heads.items c.loop-k.link.items c.loop-k.invariant.linked
          (c.requires.ends c.loop-k.k c.loop-k-test.true).1 c.loop-k.invariant.size);
    }
