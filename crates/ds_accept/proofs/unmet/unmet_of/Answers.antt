use Rattle.std.proofs.Common.{ℕ, List, None, ◌+◌, ◌<◌, length, subst, sym}
use Rattle.std.specs.Prelude.{All}
use Rattle.ds_marked.specs.Graph.{AreEnds}
use Rattle.ds_marked.specs.declared.marked.Arc.{Arc}
use Rattle.ds_accept.specs.Given.{IsFirstUnmetBelow}
use Rattle.ds_accept.specs.Masks.{IsBlock, along_arcs}
use Rattle.ds_accept.proofs.FewTokenOrders.{capped_block, capped_ends, capped_given, capped_tokens}
use Rattle.ds_accept.proofs.unmet.unmet_of.Goals as goal

pub unmet_in-requires-2-clause-asked : goal.unmet_in-requires-2-clause-asked
unmet_in-requires-2-clause-asked c = subst (AreEnds c.args.search.now.events) (sym c.requires.capped)
    (capped_ends c.args.search.now.asked.now c.args.search.now.events c.requires.asked)

pub unmet_in-requires-2-clause-bound : goal.unmet_in-requires-2-clause-bound
unmet_in-requires-2-clause-bound c = subst (λ (few : List Arc). All (λ arc. arc.tokens < 2) few) (sym c.requires.capped)
    (capped_tokens c.args.search.now.asked.now)

pub unmet_in-requires-2-clause-block : goal.unmet_in-requires-2-clause-block
unmet_in-requires-2-clause-block c = subst (λ (few : List Arc). IsBlock few c.args.from c.args.block.now.sources.items c.args.block.now.bits.items) (sym c.requires.capped)
    (capped_block c.args.search.now.asked.now c.args.from c.args.block.now.sources.items c.args.block.now.bits.items c.requires.block)

pub returns-in-None : goal.returns-in-None
returns-in-None c =
    let to : ℕ = c.args.from + length c.args.block.now.bits.items in
    capped_given c.args.search.now.asked.now (along_arcs c.args.search.now.arcs.now) c.args.from to c.requires.block.size
    (subst (λ (few : List Arc). IsFirstUnmetBelow (along_arcs c.args.search.now.arcs.now) few c.args.from to None) c.requires.capped
    (subst (IsFirstUnmetBelow (along_arcs c.args.search.now.arcs.now) c.args.few.now c.args.from to) c.in-None.is c.in_ok-unmet.ensures))
