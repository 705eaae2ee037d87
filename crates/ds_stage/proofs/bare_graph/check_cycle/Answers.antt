use Rattle.std.proofs.Common.{◌≡◌, false, true}
use Rattle.ds_stage.proofs.RateStages.{says_acyclic}
use Rattle.ds_stage.proofs.bare_graph.check_cycle.Goals as goal

pub returns-then-some-clause-ok : goal.returns-then-some-clause-ok
returns-then-some-clause-ok c = c.in-Ok.ensures.0 c.if-some.true

pub returns-else-some-clause-stop : goal.returns-else-some-clause-stop
returns-else-some-clause-stop c =
    says_acyclic c.args.name.now c.args.graph.now (λ cycle. let e = c.in-Ok.ensures.1 cycle in let f = c.if-some.false in absurd (cc)) c.refused.result c.refused.ensures
