use Rattle.std.proofs.Common.{◌≡◌, ◌∙◌, ◌<◌, ◌+◌, ◌*◌, ℕ, List, [], length, ap, subst, sym, arith}
use Rattle.std.specs.Prelude.{All}
use Rattle.std.proofs.Math.ListN.{set}
use Rattle.std.proofs.lemmas.List.{get_or_default}
use Rattle.ds_base.specs.Values.{Row}
use Rattle.ds_latch.specs.Node.{nets_of}
use Rattle.ds_latch.proofs.OrderTokens.{number_below}
use Rattle.ds_split.proofs.NodeCones.{nets_within}
use Rattle.ds_fire.specs.Turn.{IsSettledOn, Opens}
use Rattle.ds_fire.proofs.RowsAfterOpening.{bits_are, opened_settled, settling_inside, settling_wide}
use Rattle.ds_fire.proofs.opening.open_settled.Goals as goal

pub index_mut-requires : goal.index_mut-requires
index_mut-requires c =
    let (m, at) = c.requires.node in
    let inside : c.index-number.result * c.of-places.result.each + c.of-places.result.next < length c.args.kept.now.rows.items =
    settling_inside c.args.latches.now [] c.args.kept.now.rows.items c.requires.rows c.args.opening.opened c.of-places.result c.of-places.ensures m at.node at.settling c.index-number.result (at.is ∙ sym c.index-number.ensures) in
    omega (arith, c.args.kept.now.rows.ok.0)

pub pick_values-requires-clause-one_each : goal.pick_values-requires-clause-one_each
pick_values-requires-clause-one_each c =
    let (m, at) = c.requires.node in
    let rows : List Row = c.args.kept.now.rows.items in
    let into : ℕ = c.index-number.result * c.of-places.result.each + c.of-places.result.next in
    let bit : c.index-bits-number.result ≡ nets_of c.args.latches.now m =
    bits_are c.args.latches.now c.bits.result.now c.index-number.result c.index-bits-number.result (omega (arith, c.bits.ensures.one_each, at.is, c.index-number.ensures, number_below c.args.latches.now m at.node)) c.index-bits-number.is c.bits.ensures.nets m at.node (at.is ∙ sym c.index-number.ensures) in
    let inside : c.index-number.result * c.of-places.result.each + c.of-places.result.next < length c.args.kept.now.rows.items =
    settling_inside c.args.latches.now [] rows c.requires.rows c.args.opening.opened c.of-places.result c.of-places.ensures m at.node at.settling c.index-number.result (at.is ∙ sym c.index-number.ensures) in
    ap length (c.index_mut.ensures.value ∙ get_or_default rows into c.index_mut.result.now [] inside)
    ∙ (settling_wide c.args.latches.now [] rows c.requires.rows c.args.opening.opened c.of-places.result c.of-places.ensures m at.node at.settling c.index-number.result (at.is ∙ sym c.index-number.ensures)
    ∙ ap length (sym (c.as_slice-2.ensures ∙ bit)))

pub pick_values-requires-clause-within : goal.pick_values-requires-clause-within
pick_values-requires-clause-within c =
    let (m, at) = c.requires.node in
    let bit : c.index-bits-number.result ≡ nets_of c.args.latches.now m =
    bits_are c.args.latches.now c.bits.result.now c.index-number.result c.index-bits-number.result (omega (arith, c.bits.ensures.one_each, at.is, c.index-number.ensures, number_below c.args.latches.now m at.node)) c.index-bits-number.is c.bits.ensures.nets m at.node (at.is ∙ sym c.index-number.ensures) in
    let long : length c.settle.new.nets ≡ length c.args.latches.now.circuit.nets = c.settle.ensures.same ∙ c.requires.nets in
    subst (λ (n : ℕ). All (λ net. net < n) c.as_slice-2.result.now) (sym long)
    (subst (λ (these : List ℕ). All (λ net. net < length c.args.latches.now.circuit.nets) these) (sym (c.as_slice-2.ensures ∙ bit))
    (nets_within c.args.latches.now c.requires.design.1 c.requires.design.0 m at.node))

pub returns-clause-opens : goal.returns-clause-opens
returns-clause-opens c vectors =
    let (m, at) = c.requires.node in
    let rows : List Row = c.args.kept.now.rows.items in
    let into : ℕ = c.index-number.result * c.of-places.result.each + c.of-places.result.next in
    let settled : IsSettledOn c.args.latches.now c.args.kept.now.rows.items c.args.opening.opened m c.settle.new.nets =
    subst (λ (rs : List Row). IsSettledOn c.args.latches.now rs c.args.opening.opened m c.settle.new.nets) c.as_slice.ensures.value (c.settle.ensures.settled m at) in
    let bit : c.index-bits-number.result ≡ nets_of c.args.latches.now m =
    bits_are c.args.latches.now c.bits.result.now c.index-number.result c.index-bits-number.result (omega (arith, c.bits.ensures.one_each, at.is, c.index-number.ensures, number_below c.args.latches.now m at.node)) c.index-bits-number.is c.bits.ensures.nets m at.node (at.is ∙ sym c.index-number.ensures) in
    subst (λ (l : ℕ). Opens c.args.latches.now vectors c.args.opening.opened l rows (set rows into c.pick_values.new.into)) c.index-number.ensures
    (opened_settled c.args.latches.now vectors rows c.requires.rows c.args.opening.opened c.of-places.result c.of-places.ensures m at.node at.settling c.index-number.result (at.is ∙ sym c.index-number.ensures)
    (set rows into c.pick_values.new.into) c.settle.new.nets c.as_slice-2.result.now (c.as_slice-2.ensures ∙ bit) settled
    (ap (λ (row : Row). set rows into row) c.pick_values.ensures))
