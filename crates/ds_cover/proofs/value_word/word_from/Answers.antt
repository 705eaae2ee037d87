use Rattle.std.proofs.Common.{◌∙◌, ◌+◌, ◌*◌, ap, arith, get_or}
use Rattle.ds_base.specs.declared.value.Value.TheVariants.{Zero}
use Rattle.ds_cover.specs.Packed.{one_bit, unknown_bit, zero_bit}
use Rattle.ds_cover.proofs.Bits.{read_more}
use Rattle.ds_cover.proofs.value_word.word_from.Goals as goal

pub loop-i-preserved : goal.loop-i-preserved
loop-i-preserved c =
    let nets = c.args.nets.now in
    let inputs = c.args.inputs.now in
    let net = c.index-inputs-i.is in
    let value = c.value_in-value.ensures ∙ ap (λ n. get_or nets n Zero) c.index.ensures in
    record {
      ones_are = read_more one_bit nets inputs c.loop-i.i c.index-inputs-i.result c.value_in-value.result _ c.loop-i.ones (omega arith) (omega arith) net value c.loop-i.invariant.ones_are (ap (λ n. n + 2 * c.loop-i.ones) c.is_one.ensures.value);
      zeros_are = read_more zero_bit nets inputs c.loop-i.i c.index-inputs-i.result c.value_in-value.result _ c.loop-i.zeros (omega arith) (omega arith) net value c.loop-i.invariant.zeros_are (ap (λ n. n + 2 * c.loop-i.zeros) c.is_zero.ensures.value);
      unknown_are = read_more unknown_bit nets inputs c.loop-i.i c.index-inputs-i.result c.value_in-value.result _ c.loop-i.unknown (omega arith) (omega arith) net value c.loop-i.invariant.unknown_are (ap (λ n. n + 2 * c.loop-i.unknown) c.is_unknown.ensures.value);
    }
