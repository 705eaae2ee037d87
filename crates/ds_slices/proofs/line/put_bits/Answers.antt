use Rattle.std.proofs.Common.{◌≡◌, ◌∙◌, ℕ, length, take, ap, arith}
use Rattle.std.specs.Int.{bit_at}
use Rattle.std.proofs.lemmas.List.{length-map}
use Rattle.ds_base.specs.Values.{Row}
use Rattle.ds_cover.specs.Kept.{bit_value}
use Rattle.ds_design.specs.Trace.{values_text}
use Rattle.ds_rows.proofs.RowText.{value_chars, value_chars-chunk, values_text-some}
use Rattle.ds_outside.proofs.Pens.{puts_on, with_put}
use Rattle.ds_slices.specs.Turns.{turn_row}
use Rattle.ds_slices.proofs.line.put_bits.Goals as goal

pub writing-preserved : goal.writing-preserved
writing-preserved g c =
    let values : Row = turn_row c.args.bytes.now c.args.turn in
    let long : length values ≡ length c.args.bytes.now = length-map c.args.bytes.now (λ (b : ℕ). bit_value (bit_at b c.args.turn)) in
    record {
      within = omega arith;
      written = with_put (value_chars-chunk values c.writing.done c.min-count.result c.writing.piece c.fill.new.piece (omega arith) (omega arith) c.fill.ensures) (puts_on c.writing.invariant.written c.put-in-writing.ensures);
    }

pub returns : goal.returns
returns g c =
    let values : Row = turn_row c.args.bytes.now c.args.turn in
    let long : length values ≡ length c.args.bytes.now = length-map c.args.bytes.now (λ (b : ℕ). bit_value (bit_at b c.args.turn)) in
    let whole : value_chars (take c.writing.done values) ≡ values_text values = ap (λ n. value_chars (take n values)) (let e : c.writing.done ≡ length values = omega arith in e) ∙ values_text-some values (omega arith) in
    with_put whole c.writing.invariant.written
