use Rattle.std.proofs.Common.{◌≡◌}
use Rattle.ds_demo.specs.Demo.{gates_of}
use Rattle.ds_demo.proofs.parts.gates.Given as goal

abbrev pub invariant-loop-j : goal.invariant-loop-j
invariant-loop-j l = l.all.items ≡ gates_of l.registers l.j l.words
