use Rattle.std.proofs.Common.{◌≡◌}
use Rattle.ds_demo.specs.Demo.{registers_of}
use Rattle.ds_demo.proofs.parts.registers_in.Given as goal

abbrev pub invariant-loop-j : goal.invariant-loop-j
invariant-loop-j l = l.all.items ≡ registers_of l.registers l.j l.words
