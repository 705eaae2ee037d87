use Rattle.std.proofs.Common.{refl}
use Rattle.ds_stage.proofs.bare_graph.cyclic.Goals as goal

pub returns-in-Ok-clause-value : goal.returns-in-Ok-clause-value
returns-in-Ok-clause-value c = (refl, c.in-Ok.ensures.ok)
