-- A graph that stands alone has a period, or a line refuses it; and a plan has times.
use Rattle.std.proofs.Common.{◌≡◌, ◌⊎◌, ◌++◌, ℕ, List, length, map, Ok, inl, inr, refl, sym, subst}
use Rattle.std.specs.Prelude.{codes, slice_index}
use Rattle.ds_outside.specs.Held.{Held}
use Rattle.ds_outside.specs.declared.files.Which.TheVariants.{Delays}
use Rattle.ds_outside.specs.declared.files.Which.TheVariants as which
use Rattle.ds_lines.specs.Line.{Line}
use Rattle.ds_marked.specs.Graph.{AreEnds, Graph, IsKept, IsLive}
use Rattle.ds_marked.specs.Log.{text_of_event}
use Rattle.ds_rank.specs.Order.{HasEdge}
use Rattle.ds_rank.specs.Free.{edge_of_arc}
use Rattle.ds_rank.proofs.RelatedOrders.{cycle_by}
use Rattle.ds_graph_laws.proofs.RanksOrCycle.{events_have_ranks_or_cycle, live_graphs_have_ranks, ranks_or_cycle}
use Rattle.ds_period.specs.Controller.{HasPeriod}
use Rattle.ds_period.specs.Read.{delays_of}
use Rattle.ds_period.specs.Timing.{HasCycle, Leads, timed_arcs}
use Rattle.ds_period.proofs.ClosedWalks.{cycle_closes, edge_by, ends_of, leads_from, none_closes}
use Rattle.ds_graph_laws.proofs.TimedGraphs.{delays_are_one_each, graphs_have_periods}
use Rattle.ds_times.proofs.SchedulesExist.{some_schedule}
use Rattle.ds_times.proofs.ArcsByRank.{ranked_live, timed_rises}
use Rattle.ds_graph_laws.proofs.OneOrder.{events_have_one_order}
use Rattle.ds_astg.specs.Read.{graph_of_lines}
use Rattle.ds_text_laws.proofs.ReadKept.{read_kept}
use Rattle.ds_cmd.specs.declared.rate.RateJob.{RateJob}
use Rattle.ds_stage.specs.FaultText.{file_line, with_blanks}
use Rattle.ds_stage.specs.GraphText.{astg_text}
use Rattle.ds_stage.specs.PeriodStage.{IsPeriodText, delay_text, delays_stage, given_stage, period_text, timed_stage}
use Rattle.ds_stage.specs.RateStage.{bare_graph_stage, bare_stage, cyclic_stage}
use Rattle.ds_stage.specs.Stage.{giving}
use Rattle.ds_stage.specs.Stages.{lines_stage, read_or_line, result_stage}
use Rattle.ds_stage.specs.TimesStage.{IsTimesText, scheduled_stage, time_lines}
use Rattle.ds_stage.proofs.FileMeaning.{read_meant}
use Rattle.ds_app.specs.JobStages.{rate_stage}
use Rattle.ds_total_laws.specs.Decided.{IsDecided}
use Rattle.ds_total_laws.specs.FileBytes.{HasBytes}
use Rattle.ds_total_laws.proofs.StagesDecided.{lines_decided, result_decided, then_decided}

-- a graph has a cycle, or none
cycles_decided : (g : Graph) → AreEnds (length g.events) g.arcs → HasCycle g ⊎ (¬ HasCycle g)
cycles_decided g ends = elim (ranks_or_cycle (map edge_of_arc g.arcs) (length g.events) (λ _. 0) (ends_of g.arcs (length g.events) ends)) [
  | inl (ranks, are) ↦ inr (none_closes g (λ v. slice_index ranks v) (λ u v leads. are.above u v (edge_by g.arcs u v leads)))
  | inr (events, cycle) ↦ inl (cycle_closes g events (cycle_by (HasEdge (map edge_of_arc g.arcs)) (Leads g) (leads_from g.arcs) events cycle))
]

-- a graph has a period, or it has a cycle without tokens or none at all
cyclic_decided : (file : List ℕ) (g : Graph) → IsKept g → IsDecided (cyclic_stage file g)
cyclic_decided file g kept = elim (events_have_ranks_or_cycle g kept.ends) [
  | inl (ranks, are) ↦ elim (cycles_decided g kept.ends) [
    | inl cycle ↦ inl (g, (refl, record { tokens = ranked_live g ranks kept.ends are; cycle = cycle }))
    | inr none ↦ inr (file_line file (codes "no cycle"), inr (none, refl))
  ]
  | inr (events, cycle) ↦
      (let text : List ℕ = codes "token-free cycle:" ++ with_blanks (map (text_of_event g) events) in
      inr (file_line file text, inl (events, text, cycle, refl, refl)))
]

-- delays that are read give a graph its period
period_there : (g : Graph) → HasPeriod g → (lines : List Line) (delays : List ℕ) → delays_of g lines ≡ Ok delays → (text : List ℕ) × IsPeriodText g delays text
period_there g has lines delays read =
    let (p, q, cycle, potentials, period) = graphs_have_periods g has delays (delays_are_one_each g lines delays read) in
    (period_text g p q cycle potentials, record { p = p; q = q; cycle = cycle; potentials = potentials; period = period; spelt = refl })

-- and its times
times_there : (g : Graph) → IsLive g → (delays : List ℕ) (turns : ℕ) → (text : List ℕ) × IsTimesText g delays turns text
times_there g live delays turns =
    let (ranks, are) = live_graphs_have_ranks g live in
    let (order, by_rank, one) = events_have_one_order (λ v. slice_index ranks v) (length g.events) in
    let (time, schedules) = some_schedule (timed_arcs g.arcs delays) live.rank (timed_rises g live delays) in (
      time_lines g time order turns,
      record {
        ranks = ranks;
        are_ranks = are;
        order = order;
        by_rank = by_rank;
        time = time;
        schedule = schedules turns;
        spelt = refl;
      },
    )

module _ (held : List ℕ → Held) where
  delays_decided : (file : List ℕ) (g : Graph) → HasBytes (held file) → IsDecided (delays_stage held file g)
  delays_decided file g has_bytes =
      then_decided (lines_stage held Delays file) (given_stage file g) (lines_decided held Delays file has_bytes)
      (λ lines are. result_decided (read_or_line file delay_text (delays_of g lines)))

  bare_decided : (file : List ℕ) → HasBytes (held file) → IsDecided (bare_graph_stage held file)
  bare_decided file has_bytes =
      then_decided (lines_stage held which.Graph file) (bare_stage file) (lines_decided held which.Graph file has_bytes)
      (λ lines are. then_decided (result_stage (read_or_line file astg_text (graph_of_lines lines))) (cyclic_stage file)
      (result_decided (read_or_line file astg_text (graph_of_lines lines)))
      (λ g is. cyclic_decided file g (read_kept lines g (read_meant file astg_text (graph_of_lines lines) g is))))

  -- `rate` has a text, or a line refuses it
  pub rate_decided : (job : RateJob) → HasBytes (held job.graph) → HasBytes (held job.delays) → IsDecided (rate_stage held job)
  rate_decided job named has_bytes =
      then_decided (bare_graph_stage held job.graph) (timed_stage held job.delays) (bare_decided job.graph named)
      (λ g (lines, are, (h, is, (same, has))).
      then_decided (delays_stage held job.delays g) (λ (delays : List ℕ). giving (IsPeriodText g delays)) (delays_decided job.delays g has_bytes)
      (λ delays (rows, read, given).
      inl (period_there g (subst (λ (k : Graph). HasPeriod k) (sym same) has) rows delays (read_meant job.delays delay_text (delays_of g rows) delays given))))

  -- a live graph has times with the delays of a file with bytes, or a line of them has a fault
  pub scheduled_decided : (file : List ℕ) (turns : ℕ) (g : Graph) → IsLive g → HasBytes (held file) → IsDecided (scheduled_stage held file turns g)
  scheduled_decided file turns g live has_bytes =
      then_decided (delays_stage held file g) (λ (delays : List ℕ). giving (IsTimesText g delays turns)) (delays_decided file g has_bytes)
      (λ delays are. inl (times_there g live delays turns))
