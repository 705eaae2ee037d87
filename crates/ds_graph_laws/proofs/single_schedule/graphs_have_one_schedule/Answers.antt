use Rattle.ds_graph_laws.proofs.OneSchedule.{graphs_have_one_schedule}
use Rattle.ds_graph_laws.proofs.single_schedule.graphs_have_one_schedule.Goals as goal

pub returns : goal.returns
returns c = graphs_have_one_schedule
