use Rattle.std.proofs.Common.{◌≡◌, ◌∙◌, ◌+◌, ◌<◌, ℕ, List, length, get_or, ap, sym, arith}
use Rattle.std.specs.Int.{bit_at}
use Rattle.std.proofs.lemmas.List.{get_or-map, length-map}
use Rattle.ds_base.specs.Values.{Row}
use Rattle.ds_base.specs.declared.value.Value.{Value}
use Rattle.ds_base.specs.declared.value.Value.TheVariants.{Zero}
use Rattle.ds_cover.specs.Kept.{bit_value}
use Rattle.ds_design.specs.Trace.{value_text}
use Rattle.ds_rows.proofs.RowText.{char_more}
use Rattle.ds_slices.specs.Turns.{turn_row}
use Rattle.ds_slices.proofs.line.fill.Goals as goal

pub loop-i-preserved : goal.loop-i-preserved
loop-i-preserved c =
    let bytes : List ℕ = c.args.bytes.now in
    let f : ℕ → Value = λ b. bit_value (bit_at b c.args.turn) in
    let values : Row = turn_row c.args.bytes.now c.args.turn in
    let long : length (turn_row c.args.bytes.now c.args.turn) ≡ length c.args.bytes.now = length-map c.args.bytes.now f in
    let size : length c.loop-i.piece ≡ length c.args.piece.now = c.loop-i.auto.piece in
    let less : c.loop-i.i < length c.args.piece.now = omega arith in
    let inside : c.args.from + c.loop-i.i < length c.args.bytes.now = (let w = c.requires.within in omega arith) in
    let value : get_or values (c.args.from + c.loop-i.i) Zero ≡ f (get_or bytes (c.args.from + c.loop-i.i) 0) =
    get_or-map f bytes (c.args.from + c.loop-i.i) 0 Zero inside in
    char_more c.loop-i.piece values c.args.from c.loop-i.i c.bit_character.result (omega arith) (omega arith) c.loop-i.invariant
    (c.bit_character.ensures ∙ ap value_text (sym value))
