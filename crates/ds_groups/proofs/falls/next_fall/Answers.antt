use Rattle.std.proofs.Common.{◌+◌, ◌-◌, ◌<◌, arith, refl, get_or, drop}
use Rattle.ds_groups.specs.Stand.{Falls}
use Rattle.ds_groups.proofs.Falling.{at_fall, falls_less, first_at, next_at, piece_less}
use Rattle.ds_groups.proofs.falls.next_fall.Goals as goal

pub returns-then-at-start : goal.returns-then-at-start
returns-then-at-start c = first_at c.args.word.now c.args.start c.args.at c.requires.within (omega arith)

pub held_behind-requires-clause-piece : goal.held_behind-requires-clause-piece
held_behind-requires-clause-piece c =
    let falls : Falls (drop c.args.start c.args.word.now) (c.args.at - c.args.start) (get_or c.args.falls.now c.args.at 0) =
    at_fall c.args.word.now c.args.falls.now c.args.start c.args.at (omega arith) c.requires.piece c.requires.falls in
    let low : get_or c.args.falls.now c.args.at 0 < c.args.at - c.args.start = falls.less in
    piece_less c.args.word.now c.args.start (c.args.at - c.args.start) (get_or c.args.falls.now c.args.at 0) c.requires.piece (omega arith)

pub held_behind-requires-clause-plain : goal.held_behind-requires-clause-plain
held_behind-requires-clause-plain c =
    let falls : Falls (drop c.args.start c.args.word.now) (c.args.at - c.args.start) (get_or c.args.falls.now c.args.at 0) =
    at_fall c.args.word.now c.args.falls.now c.args.start c.args.at (omega arith) c.requires.piece c.requires.falls in
    c.requires.piece.plain (get_or c.args.falls.now c.args.at 0) falls.less

pub held_behind-requires-clause-falls : goal.held_behind-requires-clause-falls
held_behind-requires-clause-falls c =
    let falls : Falls (drop c.args.start c.args.word.now) (c.args.at - c.args.start) (get_or c.args.falls.now c.args.at 0) =
    at_fall c.args.word.now c.args.falls.now c.args.start c.args.at (omega arith) c.requires.piece c.requires.falls in
    let low : get_or c.args.falls.now c.args.at 0 < c.args.at - c.args.start = falls.less in
    falls_less c.args.word.now c.args.falls.now (c.args.at + 1) (c.args.start + get_or c.args.falls.now c.args.at 0 + 1) c.requires.falls (omega arith)

pub held_behind-requires-clause-length : goal.held_behind-requires-clause-length
held_behind-requires-clause-length c =
    let falls : Falls (drop c.args.start c.args.word.now) (c.args.at - c.args.start) (get_or c.args.falls.now c.args.at 0) =
    at_fall c.args.word.now c.args.falls.now c.args.start c.args.at (omega arith) c.requires.piece c.requires.falls in
    let low : get_or c.args.falls.now c.args.at 0 < c.args.at - c.args.start = falls.less in
    omega (arith, c.requires.length)

pub returns : goal.returns
returns c = next_at c.args.word.now c.args.falls.now c.args.start c.args.at (get_or c.args.word.now c.args.at 0) c.held_behind.result
    c.requires.within (omega arith) c.requires.piece c.requires.falls refl c.held_behind.ensures.few c.held_behind.ensures.same
