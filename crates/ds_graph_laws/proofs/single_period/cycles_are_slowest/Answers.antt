use Rattle.ds_graph_laws.proofs.OnePeriod.{cycles_are_slowest}
use Rattle.ds_graph_laws.proofs.single_period.cycles_are_slowest.Goals as goal

pub returns : goal.returns
returns c = cycles_are_slowest
