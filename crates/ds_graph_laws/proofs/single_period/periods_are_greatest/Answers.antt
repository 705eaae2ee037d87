use Rattle.ds_graph_laws.proofs.OnePeriod.{periods_are_greatest}
use Rattle.ds_graph_laws.proofs.single_period.periods_are_greatest.Goals as goal

pub returns : goal.returns
returns c = periods_are_greatest
