use Rattle.std.proofs.Common.{◌+◌, length}
use Rattle.std.proofs.lemmas.List.Elements.{All-contains_itself}
use Rattle.ds_accept.specs.Masks.{along_arcs}
use Rattle.ds_accept.proofs.MaskWalks.{unmet_on_by, unmet_whole_by}
use Rattle.ds_accept.proofs.unmet.first_along.Goals as goal

pub returns-in-Some : goal.returns-in-Some
returns-in-Some c =
    let g = along_arcs c.args.search.now.arcs.now in
    let all = All-contains_itself c.args.search.now.arcs.now in
    unmet_whole_by g g all all c.args.search.now.asked.now c.loop-from.from (c.loop-from.from + length c.in_ok-block.block.bits.items)
    c.loop-from.invariant c.in_ok-unmet.unmet c.in-Some.place c.in-Some.is c.in_ok-block.ensures.size c.in_ok-unmet.ensures

pub loop-from-preserved : goal.loop-from-preserved
loop-from-preserved c =
    let g = along_arcs c.args.search.now.arcs.now in
    let all = All-contains_itself c.args.search.now.arcs.now in
    let on = unmet_on_by g g all all c.args.search.now.asked.now c.loop-from.from (c.loop-from.from + length c.in_ok-block.block.bits.items)
    c.loop-from.invariant c.in_ok-unmet.unmet c.in-None.is c.in_ok-unmet.ensures in
    let e = c.len-from.ensures in rw e on
