use Rattle.ds_marked.specs.Graph.{AreEnds}
use Rattle.ds_part_tests.proofs.walk_tests.long.Given as goal

abbrev pub invariant-loop : goal.invariant-loop
invariant-loop l = AreEnds 3 l.asked.items
