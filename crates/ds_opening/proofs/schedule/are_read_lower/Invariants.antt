use Rattle.std.proofs.Common.{None, get_or, take}
use Rattle.std.specs.Prelude.{All}
use Rattle.ds_opening.specs.Scheduled.{IsLower}
use Rattle.ds_opening.proofs.schedule.are_read_lower.Given as goal

abbrev pub invariant-loop-net : goal.invariant-loop-net
invariant-loop-net l = All (λ net. IsLower l.numbers l.ranks l.table (get_or l.drivers net None)) (take l.net-index l.inputs)
