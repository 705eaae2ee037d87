use Rattle.std.proofs.Common.{◌≡◌, ◌∙◌, ◌<◌, ◌^◌, ℕ, List, length, ap, arith, refl, subst, sym}
use Rattle.std.specs.Prelude.{All, slice_index}
use Rattle.ds_marked.specs.Graph.{Graph, IsLive}
use Rattle.ds_marked.specs.declared.marked.Event.{Event}
use Rattle.ds_rank.specs.Rank.{AreRanks}
use Rattle.ds_period.specs.Timing.{timed_arcs}
use Rattle.ds_times.specs.Course.{Course, HasSchedulesOf}
use Rattle.ds_times.specs.Order.{IsByRank}
use Rattle.ds_times.specs.Schedule.{IsSchedule}
use Rattle.ds_times.proofs.SchedulesExist.{some_schedule}
use Rattle.ds_times.proofs.ArcsByRank.{timed_rises}
use Rattle.ds_stage.specs.Ends.{Output, output_between}
use Rattle.ds_stage.specs.TimesStage.{IsTimesText, time_lines}
use Rattle.ds_stage.proofs.FaultCounts.{unwritten_or}
use Rattle.ds_app.proofs.TimesTexts.{ends_unwritten, ends_written, is_times}
use Rattle.ds_app.proofs.times.write_times.Goals as goal

pub events_by_rank-requires-clause-few : goal.events_by_rank-requires-clause-few
events_by_rank-requires-clause-few g c = let size = ap length c.events.ensures.events in let few = c.events.ensures.kept.few_events in omega (arith, size, few)

pub events_by_rank-requires-clause-ranks : goal.events_by_rank-requires-clause-ranks
events_by_rank-requires-clause-ranks g c =
    c.in_ok-ranks.ensures.size ∙ ap (λ (h : Graph). length h.events) (sym c.graph-graph.ensures.graph) ∙ ap length (sym c.events.ensures.events)

pub of-requires-clause-one_each : goal.of-requires-clause-one_each
of-requires-clause-one_each g c = c.requires.one_each ∙ ap (λ (h : Graph). length h.arcs) (sym c.graph-graph.ensures.graph)

pub of-requires-clause-ranks : goal.of-requires-clause-ranks
of-requires-clause-ranks g c = subst (λ (h : Graph). AreRanks h c.in_ok-ranks.ranks) (sym c.graph-graph.ensures.graph) c.in_ok-ranks.ensures

pub write_turns-requires-clause-events : goal.write_turns-requires-clause-events
write_turns-requires-clause-events g c = c.in_ok-schedule.ensures.ok_events ∙ ap (λ (h : Graph). length h.events) c.graph-graph.ensures.graph

-- the order is that of the plan's events
by_rank : (h : Graph) (events : List Event) (graph : Graph) (ranks order : List ℕ) → graph ≡ h → events ≡ graph.events
    → IsByRank (slice_index ranks) (length events) order → IsByRank (slice_index ranks) (length h.events) order
by_rank h events graph ranks order same are is =
    subst (λ (n : ℕ). IsByRank (slice_index ranks) n order) (ap length are ∙ ap (λ (k : Graph). length k.events) same) is

pub write_turns-requires-clause-order : goal.write_turns-requires-clause-order
write_turns-requires-clause-order g c =
    subst (λ (vs : List ℕ). All (λ v. v < length c.args.plan.now.graph.events) vs) (sym c.as_slice.ensures.value)
    (by_rank c.args.plan.now.graph c.events.result.now c.graph-graph.result.now c.in_ok-ranks.ranks c.in_ok-order.order.items c.graph-graph.ensures.graph c.events.ensures.events c.in_ok-order.ensures).inside

-- the times of the plan's graph
found : (h : Graph) → IsLive h → (delays : List ℕ) → (time : ℕ → ℕ → ℕ) × ((turns : ℕ) → IsSchedule (timed_arcs h.arcs delays) turns time)
found h live delays = some_schedule (timed_arcs h.arcs delays) live.rank (timed_rises h live delays)

-- they are those of the schedule
kept : (h graph : Graph) (delays : List ℕ) (s : Course) (turns : ℕ) (time : ℕ → ℕ → ℕ) → graph ≡ h → HasSchedulesOf (timed_arcs graph.arcs delays) s.arcs
    → IsSchedule (timed_arcs h.arcs delays) turns time → IsSchedule s.arcs turns time
kept h graph delays s turns time same has is =
    has turns time (subst (λ (k : Graph). IsSchedule (timed_arcs k.arcs delays) turns time) (sym same) is)

pub returns-in-Ok-clause-value : goal.returns-in-Ok-clause-value
returns-in-Ok-clause-value g c =
    let h : Graph = c.args.plan.now.graph in
    let delays : List ℕ = c.args.delays.now in
    let ranks : List ℕ = c.in_ok-ranks.ranks in
    let order : List ℕ = c.in_ok-order.order.items in
    let turns : ℕ = c.args.turns in
    let (time, all) = found c.args.plan.now.graph c.graph-graph.ensures.accepted.live c.args.delays.now in
    let out : Output = output_between g.O.Sink.written g.O.Sink.faults c.args.out.now c.write_turns.new.out in
    ends_written (IsTimesText h delays turns) (time_lines h time c.as_slice.result.now turns)
    (is_times h delays ranks order c.as_slice.result.now turns time c.in_ok-ranks.ensures
    (by_rank h c.events.result.now c.graph-graph.result.now ranks order c.graph-graph.ensures.graph c.events.ensures.events c.in_ok-order.ensures)
    c.as_slice.ensures.value (all turns)) tt out
    (c.in-Ok.ensures time (kept h c.graph-graph.result.now delays c.in_ok-schedule.schedule turns time c.graph-graph.ensures.graph c.in_ok-schedule.ensures.ok_schedules (all turns)))

pub returns-clause-value : goal.returns-clause-value
returns-clause-value g c =
    let h : Graph = c.args.plan.now.graph in
    let delays : List ℕ = c.args.delays.now in
    let ranks : List ℕ = c.in_ok-ranks.ranks in
    let order : List ℕ = c.in_ok-order.order.items in
    let turns : ℕ = c.args.turns in
    let (time, all) = found c.args.plan.now.graph c.graph-graph.ensures.accepted.live c.args.delays.now in
    let out : Output = output_between g.O.Sink.written g.O.Sink.faults c.args.out.now c.write_turns.new.out in
    ends_unwritten (IsTimesText h delays turns) (time_lines h time c.as_slice.result.now turns)
    (is_times h delays ranks order c.as_slice.result.now turns time c.in_ok-ranks.ensures
    (by_rank h c.events.result.now c.graph-graph.result.now ranks order c.graph-graph.ensures.graph c.events.ensures.events c.in_ok-order.ensures)
    c.as_slice.ensures.value (all turns)) c.in-Err.field-0 out
    (c.in-Err.ensures time (kept h c.graph-graph.result.now delays c.in_ok-schedule.schedule turns time c.graph-graph.ensures.graph c.in_ok-schedule.ensures.ok_schedules (all turns)))

pub returns-in-Ok-clause-same_writes : goal.returns-in-Ok-clause-same_writes
returns-in-Ok-clause-same_writes g c =
    let (time, all) = found c.args.plan.now.graph c.graph-graph.ensures.accepted.live c.args.delays.now in
    (c.in-Ok.ensures time (kept c.args.plan.now.graph c.graph-graph.result.now c.args.delays.now c.in_ok-schedule.schedule c.args.turns time c.graph-graph.ensures.graph c.in_ok-schedule.ensures.ok_schedules (all c.args.turns))).ok_same
