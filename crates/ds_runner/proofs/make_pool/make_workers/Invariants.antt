use Rattle.std.specs.Prelude.{vec_capacity}
use Rattle.ds_runner.proofs.HiringLemmas.{IsHiring}
use Rattle.ds_runner.proofs.make_pool.make_workers.Given as goal

abbrev pub invariant-hiring : goal.invariant-hiring
invariant-hiring g l = IsHiring l.workload l.stile l.number l.count (vec_capacity l.workers) l.workers.items l.turn
