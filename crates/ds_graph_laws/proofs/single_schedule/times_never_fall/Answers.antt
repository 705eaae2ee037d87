use Rattle.ds_graph_laws.proofs.OneSchedule.{times_never_fall}
use Rattle.ds_graph_laws.proofs.single_schedule.times_never_fall.Goals as goal

pub returns : goal.returns
returns c = times_never_fall
