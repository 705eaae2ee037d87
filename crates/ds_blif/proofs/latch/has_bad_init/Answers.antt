use Rattle.std.proofs.Common.{◌≡◌, length, arith}
use Rattle.ds_lines.specs.Words.{texts}
use Rattle.ds_blif.proofs.Forms.{count, init_fourth, init_sixth, init_none}
use Rattle.ds_blif.proofs.latch.has_bad_init.Goals as goal

pub word-requires : goal.word-requires
word-requires c = omega (arith, c.in-4.is)

pub word-requires-in-6 : goal.word-requires-in-6
word-requires-in-6 c = omega (arith, c.in-6.is)

pub returns-in-4 : goal.returns-in-4
returns-in-4 c =
    let long : length (texts c.args.words.now) ≡ length c.args.words.now = count c.args.words.now in
    init_fourth (texts c.args.words.now) c.word.result.now c.is_init.result
    (omega (arith, c.in-4.is)) c.word.ensures c.is_init.ensures

pub returns-in-6 : goal.returns-in-6
returns-in-6 c =
    let long : length (texts c.args.words.now) ≡ length c.args.words.now = count c.args.words.now in
    init_sixth (texts c.args.words.now) c.word-in-6.result.now c.is_init-in-6.result
    (omega (arith, c.in-6.is)) c.word-in-6.ensures c.is_init-in-6.ensures

pub returns-in_default : goal.returns-in_default
returns-in_default c =
    let long : length (texts c.args.words.now) ≡ length c.args.words.now = count c.args.words.now in
    init_none (texts c.args.words.now) (λ e. absurd (omega (arith, c.in_default)))
    (λ e. absurd (omega (arith, c.in_default)))
