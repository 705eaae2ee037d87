use Rattle.ds_marked.specs.Into.{AreChains}
use Rattle.ds_marked.proofs.arc_lists.ArcLists.of.Given as goal

abbrev pub invariant-loop-i : goal.invariant-loop-i
invariant-loop-i l = AreChains l.events l.arcs l.i l.first.items l.next.items
