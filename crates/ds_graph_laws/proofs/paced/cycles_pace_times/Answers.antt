use Rattle.ds_graph_laws.proofs.TimeBounds.{cycles_pace_times}
use Rattle.ds_graph_laws.proofs.paced.cycles_pace_times.Goals as goal

pub returns : goal.returns
returns c = cycles_pace_times
