use Rattle.ds_graph_laws.proofs.OneSchedule.{schedules_are_earliest}
use Rattle.ds_graph_laws.proofs.single_schedule.schedules_are_earliest.Goals as goal

pub returns : goal.returns
returns c = schedules_are_earliest
