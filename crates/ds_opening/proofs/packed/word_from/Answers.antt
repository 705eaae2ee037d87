use Rattle.std.proofs.Common.{◌∙◌, ◌<◌, ◌≤◌, arith, ap}
use Rattle.ds_cover.specs.Cover.{value_at}
use Rattle.ds_opening.proofs.Packs.{one_more, room}
use Rattle.ds_opening.proofs.packed.word_from.Goals as goal

pub overflow_mul-word : goal.overflow_mul-word
overflow_mul-word c =
    let low : c.loop-i.word < 4611686018427387904 = room c.args.nets.now c.args.these.now c.loop-i.i c.loop-i.word (omega arith) c.requires.few c.loop-i.invariant in
    omega (low, arith)

pub overflow_add-word : goal.overflow_add-word
overflow_add-word c =
    let low : c.loop-i.word < 4611686018427387904 = room c.args.nets.now c.args.these.now c.loop-i.i c.loop-i.word (omega arith) c.requires.few c.loop-i.invariant in
    let two : c.code.result ≤ 2 = c.code.ensures.two_bits in
    omega (low, two, arith)

pub loop-i-preserved : goal.loop-i-preserved
loop-i-preserved c = one_more c.args.nets.now c.args.these.now c.loop-i.i c.index-these-i.result c.code.result c.loop-i.word c.value.result (omega arith) (omega arith) c.index-these-i.is (c.value.ensures ∙ ap (value_at c.args.nets.now) c.index.ensures)
    c.code.ensures.code c.loop-i.invariant
