use Rattle.ds_groups.specs.Tail.{ArePlainBefore}
use Rattle.ds_groups.proofs.tail.plain_before.Given as goal

abbrev pub invariant-loop-at : goal.invariant-loop-at
invariant-loop-at l = ArePlainBefore l.word l.at l.before
