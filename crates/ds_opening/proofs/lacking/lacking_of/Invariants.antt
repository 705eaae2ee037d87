use Rattle.ds_opening.specs.Lacking.{AreLackingSoFar}
use Rattle.ds_opening.proofs.lacking.lacking_of.Given as goal

abbrev pub invariant-loop-cone : goal.invariant-loop-cone
invariant-loop-cone l = AreLackingSoFar l.cones l.cone-index l.tables l.counts.items
