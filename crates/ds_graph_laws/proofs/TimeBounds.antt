-- Bounds of the times by the period, and by cycles.
use Rattle.std.specs.Prelude.{slice_index}
use Rattle.ds_period.specs.Timing.{timed_arcs}
use Rattle.ds_times.proofs.Times.{along_walk, within_potential}
use Rattle.ds_times.proofs.ArcsByRank.{timed_rises}
use Rattle.ds_graph_laws.specs.Paced.{CyclesPaceTimes, PeriodsBoundTimes}

pub periods_bound_times : PeriodsBoundTimes
periods_bound_times g live delays p q cycle potentials period turns time is v k some few =
    within_potential (timed_arcs g.arcs delays) live.rank (timed_rises g live delays) turns time is p q
    (λ u. slice_index potentials u) period.rises v k some few

pub cycles_pace_times : CyclesPaceTimes
cycles_pace_times g delays turns time is v walk closed k some few =
    along_walk (timed_arcs g.arcs delays) turns time is.waits v walk v closed k some few
