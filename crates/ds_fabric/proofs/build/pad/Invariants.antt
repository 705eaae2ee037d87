use Rattle.std.proofs.Common.{◌≡◌, ◌++◌, replicate}
use Rattle.ds_fabric.proofs.build.pad.Given as goal

abbrev pub invariant-loop-i : goal.invariant-loop-i
invariant-loop-i l = l.words.items ≡ l.fn.words.items ++ replicate l.i 0
