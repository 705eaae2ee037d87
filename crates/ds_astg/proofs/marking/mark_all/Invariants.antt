use Rattle.std.proofs.Common.{◌≡◌, drop}
use Rattle.ds_lines.specs.Words.{texts}
use Rattle.ds_astg.specs.Marking.{mark_all as mark_all_in}
use Rattle.ds_astg.proofs.marking.mark_all.Given as goal

abbrev pub invariant-loop-i : goal.invariant-loop-i
invariant-loop-i l = mark_all_in l.signals (texts l.entries) l.fn.places ≡ mark_all_in l.signals (drop l.i (texts l.entries)) l.places
