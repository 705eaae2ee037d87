use Rattle.std.proofs.Common.{◌≡◌, map, take}
use Rattle.ds_cover.specs.Cover.{values_at}
use Rattle.ds_run.proofs.starts.starts_of.Given as goal

abbrev pub invariant-loop-registers : goal.invariant-loop-registers
invariant-loop-registers l =
    l.rows.items ≡ map (values_at l.initial') (take l.registers-index l.clusters)
