use Rattle.std.proofs.Common.{◌≡◌, ◌≤◌, length}
use Rattle.std.specs.Prelude.{vec_capacity}
use Rattle.ds_runner.proofs.make_pool.stealers_of.Given as goal

abbrev pub invariant-loop-i : goal.invariant-loop-i
invariant-loop-i l = (length l.stealers.items ≡ l.i) × (length l.workers ≤ vec_capacity l.stealers)
