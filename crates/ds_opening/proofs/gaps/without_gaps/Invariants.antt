use Rattle.ds_opening.specs.Gaps.{AreAnewSoFar}
use Rattle.ds_opening.proofs.gaps.without_gaps.Given as goal

abbrev pub invariant-loop-class : goal.invariant-loop-class
invariant-loop-class l =
    AreAnewSoFar l.classes l.count l.class-index l.numbers.items l.next l.of.items
