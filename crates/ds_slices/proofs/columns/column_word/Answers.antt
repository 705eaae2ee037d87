use Rattle.std.proofs.Common.{◌≡◌, ◌∙◌, ◌+◌, ℕ, ap, arith}
use Rattle.ds_base.specs.Values.{Row}
use Rattle.ds_base.specs.declared.value.Value.{Value}
use Rattle.ds_cover.specs.Cover.{value_at}
use Rattle.ds_cover.specs.Packed.{one_bit}
use Rattle.ds_design.specs.Run.{row_at}
use Rattle.ds_slices.proofs.TurnBits.{more_bits, no_bits}
use Rattle.ds_slices.proofs.columns.column_word.Goals as goal

pub loop-turn-init : goal.loop-turn-init
loop-turn-init c = no_bits (λ k. value_at (row_at c.args.vectors.now.rows (c.args.from + k)) c.args.column)

pub loop-turn-preserved : goal.loop-turn-preserved
loop-turn-preserved c =
    let f : ℕ → Value = λ k. value_at (row_at c.args.vectors.now.rows (c.args.from + k)) c.args.column in
    let value : c.value.result ≡ f c.loop-turn.turn = c.value.ensures ∙ ap (λ (row : Row). value_at row c.args.column) c.row.ensures.row in
    more_bits f c.loop-turn.turn c.loop-turn.word c.with_bit-word.result c.loop-turn.invariant c.with_bit-word.ensures.same
    (λ none. c.with_bit-word.ensures.set none ∙ ap one_bit value)

pub returns : goal.returns
returns c = λ k low inside. c.loop-turn.invariant.told k (omega arith)
