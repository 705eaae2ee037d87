use Rattle.std.proofs.Common.{ℕ, List, ◌<◌, ◌+◌, ◌*◌, arith, length, get_or, subst, sym}
use Rattle.ds_accept.proofs.MaskWalks.{source_near}
use Rattle.ds_accept.proofs.SweepSteps.{place_lt}
use Rattle.ds_accept.proofs.unmet.unmet_in.Goals as goal

pub begun-requires-clause-inside : goal.begun-requires-clause-inside
begun-requires-clause-inside c = let (few, _, _) = c.requires.few in subst (λ (sources : List ℕ). (k : ℕ) (d : ℕ) → k < length sources → get_or sources k d < c.args.search.now.bound * c.args.search.now.events) (sym c.as_slice.ensures.value)
    (λ k d inside. let at : get_or c.args.block.now.sources.items k d < c.args.search.now.events = source_near c.args.search.now.events c.args.search.now.asked.now c.args.from c.args.block.now.sources.items c.args.block.now.bits.items c.requires.asked c.requires.block k d inside in
    let low : 0 * c.args.search.now.events + get_or c.args.block.now.sources.items k d < c.args.search.now.bound * c.args.search.now.events = place_lt c.args.search.now.events c.args.search.now.bound 0 (get_or c.args.block.now.sources.items k d) few at in
    omega (arith, low))
