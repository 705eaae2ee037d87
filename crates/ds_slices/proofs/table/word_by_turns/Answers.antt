use Rattle.std.proofs.Common.{◌≡◌, ◌∙◌, ℕ, List, ap, arith, subst}
use Rattle.std.specs.Prelude.{All}
use Rattle.ds_base.specs.declared.value.Value.{Value}
use Rattle.ds_cover.specs.Bank.{driven_at}
use Rattle.ds_cover.specs.Cover.{value_at}
use Rattle.ds_cover.specs.Kept.{bit_value}
use Rattle.ds_cover.specs.Packed.{PackedCover, one_bit, packed_value}
use Rattle.ds_cover.proofs.Known.{packed_known}
use Rattle.ds_slices.specs.Turns.{turn_row}
use Rattle.ds_slices.proofs.PickedBits.{packed_agrees}
use Rattle.ds_slices.proofs.TurnBits.{more_bits, turns_known, value-one_bit}
use Rattle.ds_slices.proofs.table.word_by_turns.Goals as goal

pub loop-turn-preserved : goal.loop-turn-preserved
loop-turn-preserved c =
    let cover : PackedCover = (driven_at c.args.bank.now c.args.table).cover in
    let f : ℕ → Value = λ k. packed_value (driven_at c.args.bank.now c.args.table).cover (turn_row c.args.words.now k) in
    let agree : All (λ net. value_at c.set_nets.new.nets net ≡ value_at (turn_row c.args.words.now c.loop-turn.turn) net) (driven_at c.args.bank.now c.args.table).cover.inputs =
    subst (λ (xs : List ℕ). All (λ net. value_at c.set_nets.new.nets net ≡ value_at (turn_row c.args.words.now c.loop-turn.turn) net) xs) c.inputs.ensures c.set_nets.ensures.set in
    let value : c.value.result ≡ f c.loop-turn.turn =
    c.value.ensures ∙ packed_agrees cover c.set_nets.new.nets (turn_row c.args.words.now c.loop-turn.turn) agree in
    record {
      same = c.set_nets.ensures.same ∙ c.loop-turn.invariant.same;
      bits = more_bits f c.loop-turn.turn c.loop-turn.word c.with_bit-word.result c.loop-turn.invariant.bits c.with_bit-word.ensures.same
          (λ none. c.with_bit-word.ensures.set none ∙ ap one_bit value);
    }

pub returns-clause-value : goal.returns-clause-value
returns-clause-value c = λ k below.
    let cover : PackedCover = (driven_at c.args.bank.now c.args.table).cover in
    ap bit_value (c.loop-turn.invariant.bits.told k (omega arith))
    ∙ value-one_bit (packed_value cover (turn_row c.args.words.now k)) (packed_known cover (turn_row c.args.words.now k) (turns_known c.args.words.now k cover.inputs))
