use Rattle.std.proofs.Common.{◌≡◌, length, arith}
use Rattle.std.proofs.lemmas.Bool.{lt-leb}
use Rattle.ds_lines.specs.Words.{texts}
use Rattle.ds_blif.proofs.Forms.{count, level_there, level_none}
use Rattle.ds_blif.proofs.latch.has_level.Goals as goal

pub word-requires : goal.word-requires
word-requires c = omega (arith, c.if-words-ge5.true)

pub returns-then-words-ge5 : goal.returns-then-words-ge5
returns-then-words-ge5 c =
    let long : length (texts c.args.words.now) ≡ length c.args.words.now = count c.args.words.now in
    level_there (texts c.args.words.now) c.word.result.now c.is_level.result
    (omega (arith, c.if-words-ge5.true)) c.word.ensures c.is_level.ensures

pub returns-else-words-ge5 : goal.returns-else-words-ge5
returns-else-words-ge5 c =
    let long : length (texts c.args.words.now) ≡ length c.args.words.now = count c.args.words.now in
    level_none (texts c.args.words.now) _ (omega (arith, c.if-words-ge5.false))
    (lt-leb 5 (length c.args.words.now) (omega (arith, c.if-words-ge5.false)))
