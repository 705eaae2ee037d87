use Rattle.std.proofs.Common.{◌+◌, ◌<◌, ◌≤◌, ℕ, length, sym, subst, arith}
use Rattle.ds_groups.specs.Tail.{ArePlainBefore}
use Rattle.ds_groups.proofs.Tails.{reached_front, reached_plain, reached_star}
use Rattle.ds_groups.proofs.tail.plain_before.Goals as goal
use Rattle.ds_groups.proofs.tail.plain_before.Goals.{then-word-at-ne42, else-word-at-ne42}

pub loop-at-init : goal.loop-at-init
loop-at-init c = reached_front c.args.word.now

pub loop-at-preserved : goal.loop-at-preserved
loop-at-preserved c =
    let low : c.loop-at.at < c.args.place = c.loop-at-test.true in
    let high : c.args.place ≤ length c.args.word.now = c.requires in
    elim c.if-word-at-ne42.branch [
      | then-word-at-ne42 w ↦
          subst (λ (b : ℕ). ArePlainBefore c.args.word.now (c.loop-at.at + 1) b) (sym w.before-is)
          (reached_plain c.args.word.now c.loop-at.at c.loop-at.before (omega arith) w.if-word-at-ne42.true c.loop-at.invariant)
      | else-word-at-ne42 w ↦
          subst (λ (b : ℕ). ArePlainBefore c.args.word.now (c.loop-at.at + 1) b) (sym w.before-is)
          (reached_star c.args.word.now c.loop-at.at c.loop-at.before (omega arith) w.if-word-at-ne42.false c.loop-at.invariant)
    ]
