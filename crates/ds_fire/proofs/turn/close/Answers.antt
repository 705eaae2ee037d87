use Rattle.std.proofs.Common.{◌≡◌, ◌∙◌, ◌<◌, ◌≤◌, ◌+◌, ◌*◌, ℕ, List, [], length, get_or, ap, subst, sym, arith}
use Rattle.std.proofs.lemmas.List.{get_or_default}
use Rattle.ds_base.specs.Values.{Row}
use Rattle.ds_latch.specs.Node.{number_of, nets_of, place_of}
use Rattle.ds_fire.specs.StoredRows.{Stored}
use Rattle.ds_fire.specs.Snapshot.{rows_of}
use Rattle.ds_fire.proofs.Settles.{place_low}
use Rattle.ds_latch.proofs.EventNodes.{node_at}
use Rattle.ds_fire.proofs.RowsAfterOpening.{closed_is, next_row, next_inside}
use Rattle.ds_fire.proofs.turn.close.Goals as goal

pub append-requires : goal.append-requires
append-requires c =
    let (n, is_node, e) = node_at c.args.latches.now c.args.number c.requires.node in
    let rows : List Row = c.args.kept.now.rows.items in
    let h : Stored = c.index_mut.result.now in
    let at : ℕ = c.args.number * c.of-places.result.each + c.of-places.result.next in
    let inside : c.args.number * c.of-places.result.each + c.of-places.result.next < length c.args.kept.now.rows.items = next_inside c.args.latches.now rows c.requires.rows c.args.closed c.of-places.result c.of-places.ensures c.args.number c.requires.node in
    let row_is : c.index-row.result.now ≡ rows_of c.args.latches.now c.args.kept.now.rows.items n (place_of c.args.latches.now (c.args.closed + 1)) =
    c.index-row.ensures ∙ (get_or_default rows at c.index-row.result.now [] inside ∙ next_row c.args.latches.now rows c.args.closed c.of-places.result c.of-places.ensures c.args.number n e) in
    let wide : length c.index-row.result.now ≡ length (nets_of c.args.latches.now n) =
    ap length row_is ∙ c.requires.rows.widths n is_node (place_of c.args.latches.now (c.args.closed + 1)) (place_low c.args.latches.now (c.args.closed + 1)) in
    let here : h ≡ get_or c.args.kept.now.stored.items (number_of n) h = c.index_mut.ensures.value ∙ ap (λ (k : ℕ). get_or c.args.kept.now.stored.items k h) (sym e) in
    let room : length c.index_mut.result.now.values + length (nets_of c.args.latches.now n) ≤ c.index_mut.result.now.room =
    subst (λ (x : Stored). length x.values + length (nets_of c.args.latches.now n) ≤ x.room) (sym here) (c.requires.room n is_node e h) in
    omega arith

pub returns-clause-closes : goal.returns-clause-closes
returns-clause-closes c n is_node e =
    let rows : List Row = c.args.kept.now.rows.items in
    let at : ℕ = c.args.number * c.of-places.result.each + c.of-places.result.next in
    let inside : c.args.number * c.of-places.result.each + c.of-places.result.next < length c.args.kept.now.rows.items = next_inside c.args.latches.now rows c.requires.rows c.args.closed c.of-places.result c.of-places.ensures c.args.number c.requires.node in
    let row_is : c.index-row.result.now ≡ rows_of c.args.latches.now c.args.kept.now.rows.items n (place_of c.args.latches.now (c.args.closed + 1)) =
    c.index-row.ensures ∙ (get_or_default rows at c.index-row.result.now [] inside ∙ next_row c.args.latches.now rows c.args.closed c.of-places.result c.of-places.ensures c.args.number n e) in
    closed_is c.args.latches.now c.args.closed c.args.number n e rows c.args.kept.now.stored.items c.index_mut.result.now c.append.new.self c.index-row.result.now (omega (arith, c.requires.stored)) c.index_mut.ensures.value row_is c.append.ensures
