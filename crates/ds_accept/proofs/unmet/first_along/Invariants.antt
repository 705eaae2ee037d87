use Rattle.std.proofs.Common.{length, ◌-◌}
use Rattle.std.specs.List.{AllWithin}
use Rattle.ds_accept.specs.Given.{IsGiven}
use Rattle.ds_accept.specs.Masks.{along_arcs}
use Rattle.ds_accept.proofs.unmet.first_along.Given as goal

abbrev pub invariant-loop-from : goal.invariant-loop-from
invariant-loop-from l = AllWithin (IsGiven (along_arcs l.search.arcs.now)) l.search.asked.now 0 l.from

abbrev pub decreases-loop-from : goal.decreases-loop-from
decreases-loop-from l = length l.search.asked.now - l.from
