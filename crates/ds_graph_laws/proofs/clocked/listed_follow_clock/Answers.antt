use Rattle.ds_graph_laws.proofs.ScheduleFollowsClock.{listed_follow}
use Rattle.ds_graph_laws.proofs.clocked.listed_follow_clock.Goals as goal

pub returns : goal.returns
returns c = listed_follow
