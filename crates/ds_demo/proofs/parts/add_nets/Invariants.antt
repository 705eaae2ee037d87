use Rattle.std.proofs.Common.{◌≡◌, ◌++◌}
use Rattle.ds_demo.specs.Demo.{nets_named}
use Rattle.ds_demo.proofs.parts.add_nets.Given as goal

abbrev pub invariant-loop-i : goal.invariant-loop-i
invariant-loop-i l = l.all.items ≡ l.fn.all.items ++ nets_named l.letter l.i
