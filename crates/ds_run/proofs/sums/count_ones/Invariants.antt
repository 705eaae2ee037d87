use Rattle.std.proofs.Common.{◌≡◌, count_by, take}
use Rattle.ds_run.specs.Summed.{is_one}
use Rattle.ds_run.proofs.sums.count_ones.Given as goal

abbrev pub invariant-loop-i : goal.invariant-loop-i
invariant-loop-i l = l.ones ≡ count_by is_one (take l.i l.row)
