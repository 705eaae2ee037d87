use Rattle.std.proofs.Common.{◌≡◌, length, arith}
use Rattle.ds_lines.specs.Words.{texts}
use Rattle.ds_blif.proofs.Forms.{count, latch_short, latch_edge, latch_level, latch_none}
use Rattle.ds_blif.proofs.latch.has_latch_form.Goals as goal

pub word-requires : goal.word-requires
word-requires c = omega (arith, c.in-5)

pub word-requires-else-is_edge : goal.word-requires-else-is_edge
word-requires-else-is_edge c = omega (arith, c.in-5)

pub returns-in-3 : goal.returns-in-3
returns-in-3 c =
    let long : length (texts c.args.words.now) ≡ length c.args.words.now = count c.args.words.now in
    latch_short (texts c.args.words.now) (omega (arith, c.in-3)) (omega (arith, c.in-3))

pub returns-then-is_edge : goal.returns-then-is_edge
returns-then-is_edge c =
    let long : length (texts c.args.words.now) ≡ length c.args.words.now = count c.args.words.now in
    latch_edge (texts c.args.words.now) c.word.result.now c.is_edge.result (omega (arith, c.in-5))
    (omega (arith, c.in-5)) c.word.ensures c.is_edge.ensures c.if-is_edge.true

pub returns-else-is_edge : goal.returns-else-is_edge
returns-else-is_edge c =
    let long : length (texts c.args.words.now) ≡ length c.args.words.now = count c.args.words.now in
    latch_level (texts c.args.words.now) c.word.result.now c.word-else-is_edge.result.now
    c.is_edge.result c.is_level.result (omega (arith, c.in-5)) (omega (arith, c.in-5))
    c.word.ensures c.is_edge.ensures c.if-is_edge.false c.word-else-is_edge.ensures
    c.is_level.ensures

pub returns-in_default : goal.returns-in_default
returns-in_default c =
    let long : length (texts c.args.words.now) ≡ length c.args.words.now = count c.args.words.now in
    latch_none (texts c.args.words.now) (λ e. absurd (omega (arith, c.in_default)))
    (λ e. absurd (omega (arith, c.in_default))) (λ e. absurd (omega (arith, c.in_default)))
    (λ e. absurd (omega (arith, c.in_default)))

pub returns-in_default-2 : goal.returns-in_default-2
returns-in_default-2 c =
    let long : length (texts c.args.words.now) ≡ length c.args.words.now = count c.args.words.now in
    latch_none (texts c.args.words.now) (λ e. absurd (omega (arith, c.in_default)))
    (λ e. absurd (omega (arith, c.in_default))) (λ e. absurd (omega (arith, c.in_default)))
    (λ e. absurd (omega (arith, c.in_default)))
