use Rattle.ds_graph_laws.proofs.ScheduleFollowsClock.{timed_follow}
use Rattle.ds_graph_laws.proofs.clocked.timed_follow_clock.Goals as goal

pub returns : goal.returns
returns c = timed_follow
