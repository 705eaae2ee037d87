-- A graph has one schedule.
use Rattle.std.proofs.Common.{inl, inr}
use Rattle.ds_period.specs.Timing.{timed_arcs}
use Rattle.ds_graph_laws.proofs.RanksOrCycle.{events_have_ranks_or_cycle}
use Rattle.ds_times.proofs.SchedulesExist.{some_schedule}
use Rattle.ds_times.proofs.Times.{earliest, never_fall, same_times}
use Rattle.ds_times.proofs.ArcsByRank.{ranked_live, timed_rises}
use Rattle.ds_graph_laws.specs.OneSchedule.{GraphsHaveOneSchedule, LiveGraphsHaveOneSchedule, SchedulesAreEarliest, TimesNeverFall}

pub live_graphs_have_one_schedule : LiveGraphsHaveOneSchedule
live_graphs_have_one_schedule g live delays =
    let arcs = timed_arcs g.arcs delays in
    let rises = timed_rises g live delays in
    let (time, is) = some_schedule arcs live.rank rises in
    (time, is, λ turns other are v k some few. same_times arcs live.rank rises turns time other (is turns) are v k some few)

pub graphs_have_one_schedule : GraphsHaveOneSchedule
graphs_have_one_schedule g ends none delays = elim (events_have_ranks_or_cycle g ends) [
  | inl (ranks, are) ↦ live_graphs_have_one_schedule g (ranked_live g ranks ends are) delays
  | inr (events, cycle) ↦ absurd (none events cycle)
]

pub schedules_are_earliest : SchedulesAreEarliest
schedules_are_earliest g live delays turns time other is waits v k some few =
    earliest (timed_arcs g.arcs delays) live.rank (timed_rises g live delays) turns time is other waits v k some few

pub times_never_fall : TimesNeverFall
times_never_fall g live delays turns time is v j k some le few =
    never_fall (timed_arcs g.arcs delays) live.rank (timed_rises g live delays) turns time is v j k some le few
