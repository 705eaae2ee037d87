use Rattle.std.proofs.Common.{◌≡◌}
use Rattle.ds_fabric.specs.Begun.{first_word_of}
use Rattle.ds_fabric.proofs.build.step_of.Given as goal

abbrev pub invariant-loop-node : goal.invariant-loop-node
invariant-loop-node g l = l.step ≡ first_word_of l.run l.node
