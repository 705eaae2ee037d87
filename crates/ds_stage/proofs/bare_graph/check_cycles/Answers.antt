use Rattle.ds_stage.proofs.RateStages.{has_period}
use Rattle.ds_stage.proofs.bare_graph.check_cycles.Goals as goal

pub returns-in-Ok-clause-ok : goal.returns-in-Ok-clause-ok
returns-in-Ok-clause-ok c = has_period c.args.graph.now c.in-Ok.ensures.ok c.check_cycle.result c.check_cycle.ensures.ok
