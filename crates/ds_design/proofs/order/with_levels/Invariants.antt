use Rattle.std.proofs.Common.{◌≡◌, map, take}
use Rattle.ds_design.specs.Placed.{placed_table}
use Rattle.ds_design.proofs.order.with_levels.Given as goal

abbrev pub invariant-loop-place : goal.invariant-loop-place
invariant-loop-place l = l.all.items ≡ map (placed_table l.tables l.levels) (take l.place-index l.places)
