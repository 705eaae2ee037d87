use Rattle.ds_graph_laws.proofs.TimeBounds.{periods_bound_times}
use Rattle.ds_graph_laws.proofs.paced.periods_bound_times.Goals as goal

pub returns : goal.returns
returns c = periods_bound_times
