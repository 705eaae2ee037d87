use Rattle.std.proofs.Common.{◌≡◌, ◌∙◌, ◌<◌, ◌+◌, ◌*◌, ℕ, List, [], length, get_or, ap, sym, arith}
use Rattle.std.proofs.lemmas.List.{get_or_default}
use Rattle.ds_base.specs.Values.{Row}
use Rattle.ds_latch.specs.Node.{Split, nodes, place_of}
use Rattle.ds_latch.specs.declared.node.Node.TheVariants.{In}
use Rattle.ds_fire.specs.Snapshot.{row_index}
use Rattle.ds_fire.proofs.Settles.{place_low, zeroth}
use Rattle.ds_fire.proofs.Shown.{index_inside}
use Rattle.ds_fire.proofs.opening.open_in.Goals as goal

pub copy_from-requires : goal.copy_from-requires
copy_from-requires c =
    let s : Split = c.args.latches.now in
    let rows : List Row = c.args.kept.now.rows.items in
    let next : ℕ = c.of-places.result.next in
    let place : ℕ = place_of c.args.latches.now (c.args.opened + 1) in
    let here : row_index c.args.latches.now 0 (place_of c.args.latches.now (c.args.opened + 1)) ≡ c.of-places.result.next = zeroth s place ∙ sym c.of-places.ensures.next in
    let below : row_index c.args.latches.now 0 (place_of c.args.latches.now (c.args.opened + 1)) < nodes c.args.latches.now * (c.args.latches.now.slack + 1) = index_inside s 0 place (omega arith) (place_low s (c.args.opened + 1)) in
    let long : length c.args.kept.now.rows.items ≡ nodes c.args.latches.now * (c.args.latches.now.slack + 1) = c.requires.rows.one_each in
    let inside : c.of-places.result.next < length c.args.kept.now.rows.items = omega arith in
    ap length (c.index_mut.ensures.value ∙ (get_or_default rows next c.index_mut.result.now [] inside ∙ ap (λ (k : ℕ). get_or rows k []) (sym here)))
    ∙ (c.requires.rows.widths In tt place (place_low s (c.args.opened + 1)) ∙ sym (c.row.ensures.width ∙ c.requires.width))
