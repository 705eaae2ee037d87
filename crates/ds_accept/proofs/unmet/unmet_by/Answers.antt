use Rattle.std.proofs.Common.{ℕ, List, ◌∙◌}
use Rattle.ds_accept.proofs.MaskWalks.{begun_starts, begun_walks, unmet_first, unmet_none_by, smaller, source_near}
use Rattle.ds_accept.proofs.unmet.unmet_by.Goals as goal

pub sweeps-init : goal.sweeps-init
sweeps-init c =
    let sources : List ℕ = c.args.block.now.sources.items in
    record {
      size = c.requires.size;
      walks = begun_walks c.args.search.now.arcs.now sources c.args.search.now.events c.args.search.now.bound c.args.masks.now
          (λ b inside. source_near c.args.search.now.events c.args.search.now.asked.now c.args.from sources c.args.block.now.bits.items c.requires.asked c.requires.block b 0 inside) c.requires.begun;
      starts = begun_starts sources c.args.search.now.events c.args.masks.now c.requires.begun;
    }

pub returns-then-is_none : goal.returns-then-is_none
returns-then-is_none c =
    let sources : List ℕ = c.args.block.now.sources.items in
    unmet_none_by c.args.search.now.arcs.now c.args.search.now.events c.args.search.now.bound c.sweep.new.masks c.args.search.now.asked.now c.args.from sources c.args.block.now.bits.items c.requires.asked c.requires.bound c.requires.block
    (c.sweep.ensures.step.walks sources c.sweeps.invariant.walks) c.first_not_found.result c.if-is_none.ensures c.first_not_found.ensures

pub sweeps-smaller : goal.sweeps-smaller
sweeps-smaller c = smaller c.sweeps.masks c.sweep.new.masks c.sweep.ensures.step.size (c.sweep.ensures.step.more c.sweeps-test.true) c.sweep.ensures.fits

pub sweeps-preserved : goal.sweeps-preserved
sweeps-preserved c =
    let sources : List ℕ = c.args.block.now.sources.items in
    record {
      size = c.sweep.ensures.step.size ∙ c.sweeps.invariant.size;
      walks = c.sweep.ensures.step.walks sources c.sweeps.invariant.walks;
      starts = λ b inside. c.sweep.ensures.step.kept _ b (c.sweeps.invariant.starts b inside);
    }

pub returns : goal.returns
returns c =
    let sources : List ℕ = c.args.block.now.sources.items in
    unmet_first c.args.search.now.arcs.now c.args.search.now.events c.args.search.now.bound c.sweep.new.masks c.args.search.now.asked.now c.args.from sources c.args.block.now.bits.items c.requires.asked c.requires.bound c.requires.block
    (c.sweep.ensures.step.walks sources c.sweeps.invariant.walks) (c.sweep.ensures.step.stays c.sweeps-test.false) (λ b inside. c.sweep.ensures.step.kept _ b (c.sweeps.invariant.starts b inside)) _
    c.first_not_found-2.ensures
