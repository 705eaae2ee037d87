use Rattle.ds_graph_laws.proofs.OneSchedule.{live_graphs_have_one_schedule}
use Rattle.ds_graph_laws.proofs.single_schedule.live_graphs_have_one_schedule.Goals as goal

pub returns : goal.returns
returns c = live_graphs_have_one_schedule
