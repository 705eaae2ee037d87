use Rattle.ds_split.specs.Keyed.{AreHolders}
use Rattle.ds_split.proofs.holders.holders_of.Given as goal

abbrev pub invariant-loop-i : goal.invariant-loop-i
invariant-loop-i l = AreHolders l.fn.count l.i l.groups l.holders.items
