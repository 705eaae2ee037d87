use Rattle.std.proofs.Common.{◌≡◌, ◌++◌}
use Rattle.ds_rule.specs.Words.{value}
use Rattle.ds_rule.specs.Plays.{listed}
use Rattle.ds_fabric.proofs.build.first_row.Given as goal

abbrev pub invariant-loop-i : goal.invariant-loop-i
invariant-loop-i g l = l.words.items ≡ l.fn.words.items
    ++ listed (value (g.C.Compute.run l.fn.openings) l.fn.node 0) l.i
