use Rattle.std.proofs.Common.{ℕ, ◌<◌, arith, ◌∙◌, sym, get_or, length-set}
use Rattle.std.proofs.lemmas.List.{get_or_default}
use Rattle.ds_accept.proofs.Begun.{begun_more_at}
use Rattle.ds_accept.proofs.sweep.begun.Goals as goal

pub loop-bit-preserved : goal.loop-bit-preserved
loop-bit-preserved c =
    let near : get_or c.args.sources.now c.loop-bit.bit c.index-sources-bit.result < c.args.size = c.requires.inside c.loop-bit.bit c.index-sources-bit.result c.loop-bit-test.true in
    let inside : c.index.result < Rattle.std.proofs.Common.length c.loop-bit.masks.items = omega (arith, c.index.ensures, c.index-sources-bit.is, c.loop-bit.invariant.size) in
    record {
      size = length-set _ _ _ ∙ c.loop-bit.invariant.size;
      begun = begun_more_at c.args.sources.now c.loop-bit.bit c.loop-bit.masks.items c.index.result c.index_mut.result.now (omega (arith, c.requires.few)) inside
          (get_or_default c.args.sources.now c.loop-bit.bit 0 c.index-sources-bit.result c.loop-bit-test.true ∙ (sym c.index-sources-bit.is ∙ sym c.index.ensures))
          c.loop-bit.invariant.begun
          (c.index_mut.ensures.value ∙ get_or_default c.loop-bit.masks.items c.index.result c.index_mut.result.now 0 inside);
    }
