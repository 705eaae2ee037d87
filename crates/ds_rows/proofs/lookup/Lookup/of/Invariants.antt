use Rattle.std.proofs.Common.{take}
use Rattle.ds_rows.specs.Lookup.{AreFirsts}
use Rattle.ds_rows.proofs.lookup.Lookup.of.Given as goal

abbrev pub invariant-loop-i : goal.invariant-loop-i
invariant-loop-i l = AreFirsts (take l.i l.texts) l.names l.firsts.items
