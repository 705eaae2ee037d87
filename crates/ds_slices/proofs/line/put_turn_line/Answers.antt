use Rattle.std.proofs.Common.{◌∙◌, List, ℕ, ap}
use Rattle.ds_design.specs.Trace.{values_text}
use Rattle.ds_outside.proofs.Pens.{puts_on, with_put}
use Rattle.ds_slices.specs.Turns.{turn_row}
use Rattle.ds_slices.proofs.line.put_turn_line.Goals as goal

pub returns : goal.returns
returns g c =
    (puts_on (puts_on (puts_on (puts_on (puts_on (with_put (c.as_bytes.ensures.value ∙ c.format.ensures.text) c.put.ensures)
    c.put-2.ensures) (with_put (ap (λ (bs : List ℕ). values_text (turn_row bs c.args.turn)) c.as_slice.ensures.value) c.put_bits.ensures)) c.put-3.ensures)
    (with_put (ap (λ (bs : List ℕ). values_text (turn_row bs c.args.turn)) c.as_slice-2.ensures.value) c.put_bits-2.ensures)) c.put-4.ensures)
