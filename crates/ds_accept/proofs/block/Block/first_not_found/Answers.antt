use Rattle.std.proofs.Common.{ℕ, List, arith, below_more, get_or, subst, sym}
use Rattle.std.proofs.lemmas.List.Elements.{at_read}
use Rattle.ds_marked.specs.declared.marked.Arc.{Arc}
use Rattle.ds_accept.specs.Masks.{IsFoundBy}
use Rattle.ds_accept.proofs.block.Block.first_not_found.Goals as goal

pub loop-k-preserved : goal.loop-k-preserved
loop-k-preserved c = let (found, _) = c.is_found.ensures in below_more _ _ c.loop-k.invariant (λ d.
    at_read c.args.search.now.asked.now (λ order. IsFoundBy c.args.search.now.events c.args.masks.now order (get_or c.args.self.now.bits.items c.loop-k.k 0)) _ c.index-search-from.result
    (omega (arith, c.deref-bit-items.ensures.len, c.requires.block.size)) c.index-search-from.is
    (subst (λ (bits : List ℕ). IsFoundBy c.args.search.now.events c.args.masks.now c.index-search-from.result (get_or bits c.loop-k.k 0)) c.deref-bit-items.ensures.value
    (subst (λ (order : Arc). IsFoundBy c.args.search.now.events c.args.masks.now order (get_or c.deref-bit-items.result.now c.loop-k.k 0)) (sym c.index-search-from.is)
    (found c.if-not-is_found.false))) d)
