use Rattle.std.proofs.Common.{◌≡◌, ◌≤◌, length}
use Rattle.std.specs.Prelude.{vec_capacity}
use Rattle.ds_runner.specs.TurnstileRule.{base}
use Rattle.ds_runner.specs.Work.{AreSingle, IsLent}
use Rattle.ds_runner.proofs.make_pool.deal_all.Given as goal

abbrev pub invariant-dealing : goal.invariant-dealing
invariant-dealing g l = AreSingle l.workload l.passes.items × (length l.passes.items ≡ l.node) × IsLent l.workload l.fn.pass 0 l.node l.pass
    × (l.nodes ≤ vec_capacity l.passes) × (base 0 l.passes.items ≡ 0)
