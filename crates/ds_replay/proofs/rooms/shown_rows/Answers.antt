use Rattle.std.proofs.Common.{◌≡◌, ◌∙◌, ◌<◌, ◌+◌, ℕ, List, [], ◌∷◌, ◌++◌, length, get_or, ap, arith, sym, subst}
use Rattle.std.proofs.lemmas.Result.{IfOk-from_err}
use Rattle.std.proofs.lemmas.List.{length-replicate, length_push}
use Rattle.ds_base.specs.Values.{Row}
use Rattle.ds_base.specs.declared.value.Value.TheVariants.{Zero}
use Rattle.ds_design.specs.Circuit.{Circuit}
use Rattle.ds_latch.specs.Node.{Split}
use Rattle.ds_replay.specs.OpenLines.{IsShownAt}
use Rattle.ds_replay.proofs.OpenTexts.{all_shown, node_there, none_shown, row_wide, shown_more}
use Rattle.ds_replay.proofs.rooms.shown_rows.Goals as goal

pub loop-number-preserved : goal.loop-number-preserved
loop-number-preserved c =
    let rows : List Row = c.loop-number.rows.items in
    let row : Row = c.show.new.row in
    let items : c.push.new.self.items ≡ c.loop-number.rows.items ++ c.show.new.row ∷ [] = c.in_ok-push.ensures.items in
    let here : IsShownAt c.args.state.now c.loop-number.number c.show.new.row =
    subst (λ (n : ℕ). IsShownAt c.args.state.now n c.show.new.row) c.new.ensures c.show.ensures.shown in
    record {
      nets = c.show.ensures.same ∙ c.loop-number.invariant.nets;
      one_each = ap length items ∙ (length_push rows row ∙ ap (λ (n : ℕ). n + 1) c.loop-number.invariant.one_each);
      each = subst (λ (rs : List Row). (k : ℕ) → k < c.loop-number.number + 1 → IsShownAt c.args.state.now k (get_or rs k [])) (sym items)
          (shown_more c.args.state.now rows c.loop-number.number row c.loop-number.invariant.one_each c.loop-number.invariant.each here);
    }

pub returns-in_err-nets : goal.returns-in_err-nets
returns-in_err-nets c = let (wrong, _) = c.from_residual.ensures in IfOk-from_err c.from_residual.result _ wrong

pub returns-in_err-rows : goal.returns-in_err-rows
returns-in_err-rows c = let (wrong, _) = c.from_residual-in_err-rows.ensures in IfOk-from_err c.from_residual-in_err-rows.result _ wrong

pub returns-in_err-row : goal.returns-in_err-row
returns-in_err-row c = let (wrong, _) = c.from_residual-in_err-row.ensures in IfOk-from_err c.from_residual-in_err-row.result _ wrong

pub returns-in_err-push : goal.returns-in_err-push
returns-in_err-push c = let (wrong, _) = c.from_residual-in_err-push.ensures in IfOk-from_err c.from_residual-in_err-push.result _ wrong

pub loop-number-init : goal.loop-number-init
loop-number-init c =
    let none = none_shown c.args.state.now c.in_ok-rows.rows.items c.in_ok-rows.ensures.items in
    record {
      nets = ap (λ (row : Row). length row) c.in_ok-nets.ensures
          ∙ (length-replicate (length c.nets.result.now) Zero
          ∙ (ap length c.nets.ensures ∙ ap (λ (circuit : Circuit). length circuit.nets) (c.design.ensures.design ∙ c.netlist.ensures.netlist)));
      one_each = none.0;
      each = none.1;
    }

pub overflow_cast-number : goal.overflow_cast-number
overflow_cast-number c = omega (arith, c.edges-edges.ensures.few, c.bits-bits.ensures.one_each, c.loop-number-test.true)

pub show-requires-clause-node : goal.show-requires-clause-node
show-requires-clause-node c =
    node_there c.args.state.now c.args.latches.now c.new.result c.loop-number.number (length c.bits-bits.result.now) c.requires.split c.new.ensures
    c.loop-number-test.true c.bits-bits.ensures.one_each

pub show-requires-clause-nets : goal.show-requires-clause-nets
show-requires-clause-nets c =
    c.loop-number.invariant.nets ∙ ap (λ (s : Split). length s.circuit.nets) (sym c.requires.split)

pub show-requires-clause-width : goal.show-requires-clause-width
show-requires-clause-width c =
    row_wide c.args.state.now c.args.latches.now c.bits-bits.result.now c.loop-number.number c.new.result c.index-bits-number.result c.as_slice.result.now
    c.in_ok-row.row c.requires.split c.in_ok-row.ensures c.as_slice.ensures c.loop-number-test.true c.index-bits-number.is c.bits-bits.ensures.nets c.new.ensures

pub returns : goal.returns
returns c =
    all_shown c.args.state.now c.args.latches.now c.loop-number.rows.items c.loop-number.number (length c.bits-bits.result.now) c.requires.split
    c.loop-number.invariant.one_each c.loop-number.invariant.each (omega (arith, c.loop-number-test.false)) c.bits-bits.ensures.one_each
