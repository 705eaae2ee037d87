use Rattle.ds_graph_laws.proofs.OnePeriod.{one_period}
use Rattle.ds_graph_laws.proofs.single_period.one_period.Goals as goal

pub returns : goal.returns
returns c = one_period
