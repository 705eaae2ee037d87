use Rattle.ds_split.proofs.Keyed.{AreKeyed}
use Rattle.ds_split.proofs.grouping.by_keys.Given as goal

abbrev pub invariant-loop-i : goal.invariant-loop-i
invariant-loop-i l = AreKeyed l.keys l.most l.i l.groups.items l.places.items
