use Rattle.std.proofs.Common.{◌∙◌, ap, sym}
use Rattle.ds_lines.specs.Names.{place_of_name}
use Rattle.ds_flat.proofs.NetNumberLemmas.{names_from}
use Rattle.ds_flat.proofs.Models.{unknown_first, unknown_next}
use Rattle.ds_flat.proofs.library.unknown_formal.Goals as goal

pub returns-then-place-len : goal.returns-then-place-len
returns-then-place-len c =
    unknown_first c.args.ports.now _ c.args.pairs.now _ c.pair-item.result c.place.result
    (names_from c.args.pairs.now c.loop-pair.pair-index c.pair-item.result c.pair-item.is
    c.loop-pair-test.true)
    c.loop-pair.invariant
    (c.place.ensures.value ∙ ap (place_of_name c.args.ports.now) c.get.ensures)
    (c.if-place-len.true ∙ c.len.ensures)

pub loop-pair-preserved : goal.loop-pair-preserved
loop-pair-preserved c =
    unknown_next c.args.ports.now _ c.args.pairs.now _ c.pair-item.result c.place.result
    (names_from c.args.pairs.now c.loop-pair.pair-index c.pair-item.result c.pair-item.is
    c.loop-pair-test.true)
    c.loop-pair.invariant
    (c.place.ensures.value ∙ ap (place_of_name c.args.ports.now) c.get.ensures)
    (λ same. c.if-place-len.false (same ∙ sym c.len.ensures))
