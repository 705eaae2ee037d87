use Rattle.std.proofs.Common.{subst}
use Rattle.ds_base.specs.Scratch.{Remembers}
use Rattle.ds_fabric.specs.Base.{Base}
use Rattle.ds_runner.proofs.make_pool.make_search.Goals as goal

pub returns : goal.returns
returns g c = subst (λ (b : Base). Remembers b.memory c.in_ok-scratch.scratch) c.workload.view_is c.in_ok-scratch.ensures
