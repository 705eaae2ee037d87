-- Graphs with delays have a period.
use Rattle.ds_period.proofs.TimedArcs.{timed_closed, timed_ends, timed_tokens}
use Rattle.ds_period.proofs.InputCycle.{plans}
use Rattle.ds_period.proofs.GivenDelays.{delays_written}
use Rattle.std.proofs.Common.{length}
use Rattle.ds_period.specs.Timing.{timed_arcs}
use Rattle.ds_graph_laws.specs.Periods.{DelaysAreOneEach, GraphsHavePeriods, PeriodsExist, PlansAreTimed}
use Rattle.ds_graph_laws.proofs.PeriodsExist.{some_period}

-- arcs have a period
pub periods_exist : PeriodsExist
periods_exist arcs count ends tokens closed = some_period arcs count ends tokens closed

-- so have the arcs of a graph with their delays
pub graphs_have_periods : GraphsHavePeriods
graphs_have_periods g has delays same =
    periods_exist (timed_arcs g.arcs delays) (length g.events)
    (timed_ends g.arcs delays (length g.events) has.tokens.ends)
    (timed_tokens g delays has.tokens)
    (timed_closed g delays same has.cycle)

-- lines give as many delays as there are arcs
pub delays_are_one_each : DelaysAreOneEach
delays_are_one_each g lines delays e = (delays_written g lines delays e).one_each

-- so the graphs of plans have a period
pub plans_are_timed : PlansAreTimed
plans_are_timed s g plan lines delays e =
    graphs_have_periods g (plans s g plan) delays (delays_are_one_each g lines delays e)
