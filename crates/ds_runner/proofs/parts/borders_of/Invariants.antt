use Rattle.std.proofs.Common.{◌≡◌, ◌≤◌, ◌+◌, length}
use Rattle.std.specs.Prelude.{vec_capacity}
use Rattle.ds_runner.proofs.BorderLemmas.{RiseTo}
use Rattle.ds_runner.proofs.parts.borders_of.Given as goal

abbrev pub invariant-loop-part : goal.invariant-loop-part
invariant-loop-part g l = RiseTo l.borders.items l.at.node × (length l.borders.items ≡ l.part)
    × (l.at.node ≤ l.workload.run.nodes) × (l.fn.parts + 1 ≤ vec_capacity l.borders)
