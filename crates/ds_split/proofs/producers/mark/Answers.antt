use Rattle.std.proofs.Common.{◌≡◌, ◌∙◌, ◌<◌, ◌+◌, ℕ, length, get_or, set, subst, sym, arith}
use Rattle.std.proofs.lemmas.List.{get_or_default}
use Rattle.ds_split.specs.Nets.{AreMarked}
use Rattle.ds_split.proofs.Marks.{mark_all, mark_more}
use Rattle.ds_split.proofs.Searching.{IsFirst}
use Rattle.ds_split.proofs.producers.mark.Goals as goal

pub loop-net-preserved : goal.loop-net-preserved
loop-net-preserved c =
    let at : c.index.result ≡ get_or c.args.nets.now c.loop-net.net-index 0 =
    c.index.ensures ∙ (c.net-item.is ∙ get_or_default c.args.nets.now c.loop-net.net-index c.net-item.result 0 c.loop-net-test.true) in
    let low : get_or c.args.nets.now c.loop-net.net-index 0 < length c.args.producers.now.items = c.requires c.loop-net.net-index 0 c.loop-net-test.true in
    subst (λ (k : ℕ). AreMarked (IsFirst c.args.nets.now (c.loop-net.net-index + 1)) c.args.mark c.args.producers.now.items (set c.loop-net.producers.items k c.args.mark)) (sym at)
    (mark_more c.args.nets.now c.loop-net.net-index c.args.mark c.args.producers.now.items c.loop-net.producers.items
    (subst (λ (k : ℕ). get_or c.args.nets.now c.loop-net.net-index 0 < k) (sym c.loop-net.invariant.same_length) low) c.loop-net.invariant)

pub returns : goal.returns
returns c = mark_all c.args.nets.now c.loop-net.net-index c.args.mark c.args.producers.now.items c.loop-net.producers.items (omega arith) c.loop-net.invariant
