use Rattle.std.proofs.Common.{◌∙◌, ◌+◌, ◌<◌, ◌≤◌, arith, sym, get_or, drop}
use Rattle.std.proofs.lemmas.Bool.{false≢true}
use Rattle.ds_groups.specs.Stand.{Falls, IsPiece}
use Rattle.ds_groups.proofs.Falling.{falls_once, one_more, nothing_held, piece_less, plain_within as plain}
use Rattle.ds_groups.proofs.falls.held_behind.Goals as goal
use Rattle.ds_groups.proofs.falls.held_behind.Goals.{then-falling-test+else-not-stands, else-falling-test}

pub falling-preserved : goal.falling-preserved
falling-preserved c =
    let few : c.falling.held ≤ c.args.piece.held = c.falling.invariant.less in
    let some : 0 < c.falling.held = c.falling-test.true in
    let is : IsPiece c.args.word.now c.args.piece.start c.falling.held = piece_less c.args.word.now c.args.piece.start c.args.piece.held c.falling.held c.requires.piece few in
    let falls : Falls (drop c.args.piece.start c.args.word.now) c.falling.held (get_or c.args.falls.now (c.args.piece.start + c.falling.held) 0) =
    c.requires.falls c.args.piece.start c.falling.held is some (omega arith) in
    let low : get_or c.args.falls.now (c.args.piece.start + c.falling.held) 0 < c.falling.held = falls.less in record {
      less = omega arith;
      same = λ rest. falls_once c.args.word.now c.args.piece.start c.falling.held c.args.byte is
          (get_or c.args.falls.now (c.args.piece.start + c.falling.held) 0) some
          (plain c.args.word.now c.args.piece.start c.args.piece.held c.falling.held c.requires.piece c.requires.plain few)
          (sym c.stands.ensures ∙ c.if-not-stands.true) falls rest
          ∙ c.falling.invariant.same rest;
    }

pub returns-then-stands-clause-same : goal.returns-then-stands-clause-same
returns-then-stands-clause-same c = λ rest.
    one_more c.args.word.now c.args.piece.start c.falling.held c.args.byte
    (piece_less c.args.word.now c.args.piece.start c.args.piece.held c.falling.held c.requires.piece c.falling.invariant.less)
    (sym c.stands-2.ensures ∙ c.if-stands.true) rest
    ∙ c.falling.invariant.same rest

pub returns-else-stands-clause-same : goal.returns-else-stands-clause-same
returns-else-stands-clause-same c = elim c.falling-test.branch [
  | then-falling-test+else-not-stands w ↦ absurd (false≢true (sym c.if-stands.false ∙ (c.stands-2.ensures ∙ (sym w.stands.ensures ∙ w.if-not-stands.false))))
  | else-falling-test w ↦ λ rest. nothing_held c.args.word.now c.args.piece.start c.args.piece.held c.falling.held c.args.byte c.requires.piece c.requires.plain
      (omega (arith, w.falling-test.false)) c.falling.invariant.less (sym c.stands-2.ensures ∙ c.if-stands.false) rest
      ∙ c.falling.invariant.same rest
]
