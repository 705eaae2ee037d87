use Rattle.std.proofs.Common.{◌≡◌, ◌∙◌, ◌+◌, ◌-◌, ◌*◌, ◌<◌, ℕ, List, [], length, get_or, ap, refl, subst, sym, arith}
use Rattle.std.specs.Vec.{with_items}
use Rattle.std.proofs.Math.ListN.{set}
use Rattle.std.proofs.lemmas.List.{with_items_is}
use Rattle.ds_base.specs.Values.{Row}
use Rattle.ds_fire.specs.Turn.{Opens}
use Rattle.ds_fire.proofs.RowsAfterOpening.{each_before, each_under, same_width, slave_inside, opened_slave}
use Rattle.ds_fire.proofs.opening.open_slave.Goals as goal

pub copy_row-requires-clause-width : goal.copy_row-requires-clause-width
copy_row-requires-clause-width c =
    let (i, is_node, is) = c.requires.slave in
    let at : ℕ = c.index.result * c.of-places.result.each + c.of-places.result.next in
    subst (λ (rs : List Row). length (get_or rs (at - c.of-places.result.each) []) ≡ length (get_or rs at [])) (sym c.deref_mut.ensures.value)
    (same_width c.args.latches.now [] c.args.kept.now.rows.items c.requires.rows c.args.opening.opened c.of-places.result c.of-places.ensures i is_node c.index.result (is ∙ sym c.index.ensures))

pub returns-clause-opens : goal.returns-clause-opens
returns-clause-opens c vectors =
    let (i, is_node, is) = c.requires.slave in
    let rows : List Row = c.args.kept.now.rows.items in
    let at : ℕ = c.index.result * c.of-places.result.each + c.of-places.result.next in
    let kept : length c.copy_row.new.rows ≡ length c.deref_mut.result.now = c.copy_row.auto.rows in
    let full : length c.copy_row.new.rows ≡ c.args.kept.now.rows.len = omega (arith, ap length c.deref_mut.ensures.value, c.args.kept.now.rows.ok.0) in
    subst (λ (l : ℕ). Opens c.args.latches.now vectors c.args.opening.opened l rows (with_items c.args.kept.now.rows c.copy_row.new.rows).items) c.index.ensures
    (opened_slave c.args.latches.now vectors rows c.requires.rows c.args.opening.opened c.of-places.result c.of-places.ensures i is_node c.index.result (is ∙ sym c.index.ensures) _
    (with_items_is c.args.kept.now.rows c.copy_row.new.rows full
    ∙ (c.copy_row.ensures ∙ ap (λ (rs : List Row). set rs at (get_or rs (at - c.of-places.result.each) [])) c.deref_mut.ensures.value)))

pub of-places-requires : goal.of-places-requires
of-places-requires c = c.requires.few

pub overflow_mul-at : goal.overflow_mul-at
overflow_mul-at c =
    let (i, is_node, is) = c.requires.slave in
    omega (arith, slave_inside c.args.latches.now [] c.args.kept.now.rows.items c.requires.rows c.args.opening.opened c.of-places.result c.of-places.ensures i is_node c.index.result (is ∙ sym c.index.ensures), c.args.kept.now.rows.ok.0)

pub overflow_add-at : goal.overflow_add-at
overflow_add-at c =
    let (i, is_node, is) = c.requires.slave in
    omega (arith, slave_inside c.args.latches.now [] c.args.kept.now.rows.items c.requires.rows c.args.opening.opened c.of-places.result c.of-places.ensures i is_node c.index.result (is ∙ sym c.index.ensures), c.args.kept.now.rows.ok.0)

pub overflow_sub-at : goal.overflow_sub-at
overflow_sub-at c =
    let (i, is_node, is) = c.requires.slave in
    each_before c.args.latches.now [] c.args.kept.now.rows.items c.requires.rows c.args.opening.opened c.of-places.result c.of-places.ensures i is_node c.index.result (is ∙ sym c.index.ensures)

pub copy_row-requires-clause-order : goal.copy_row-requires-clause-order
copy_row-requires-clause-order c =
    let (i, is_node, is) = c.requires.slave in
    each_under c.args.latches.now [] c.args.kept.now.rows.items c.requires.rows c.args.opening.opened c.of-places.result c.of-places.ensures i is_node c.index.result (is ∙ sym c.index.ensures)

pub copy_row-requires-clause-inside : goal.copy_row-requires-clause-inside
copy_row-requires-clause-inside c =
    let (i, is_node, is) = c.requires.slave in
    subst (λ (rs : List Row). c.index.result * c.of-places.result.each + c.of-places.result.next < length rs) (sym c.deref_mut.ensures.value)
    (slave_inside c.args.latches.now [] c.args.kept.now.rows.items c.requires.rows c.args.opening.opened c.of-places.result c.of-places.ensures i is_node c.index.result (is ∙ sym c.index.ensures))

pub returns-clause-nets : goal.returns-clause-nets
returns-clause-nets c = refl

pub returns-clause-stored : goal.returns-clause-stored
returns-clause-stored c = refl
