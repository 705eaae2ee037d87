use Rattle.std.proofs.Common.{rules}
use Rattle.std.specs.Int.{bit_at}
use Rattle.ds_demo.specs.Demo.{marks_of}
use Rattle.ds_demo.proofs.BuiltLists.{filter_takes, filter_leaves}
use Rattle.ds_demo.proofs.rows.rows.Goals as goal
use Rattle.ds_demo.proofs.rows.rows.Goals.{then-function-number-eq1+in_ok-marks+in_ok-push}
use Rattle.ds_demo.proofs.rows.rows.Goals.{else-function-number-eq1}

pub loop-number-preserved : goal.loop-number-preserved
loop-number-preserved c = elim c.if-function-number-eq1.branch [
  | then-function-number-eq1+in_ok-marks+in_ok-push w ↦
      filter_takes (bit_at c.args.function) marks_of _ _ _ _ c.loop-number.invariant
      w.if-function-number-eq1.true w.in_ok-marks.ensures (search rules)
  | else-function-number-eq1 w ↦
      filter_leaves (bit_at c.args.function) marks_of _ _ _ c.loop-number.invariant
      w.if-function-number-eq1.false (search rules)
]
