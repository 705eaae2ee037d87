-- What stands behind a netlist and its plan has a text, or a line refuses it.
use Rattle.std.proofs.Common.{◌≡◌, ◌⊎◌, ◌∙◌, ◌≤◌, ℕ, Bool, true, false, List, [], ◌∷◌, Option, None, Some, Result, Ok, Err, length, inl, inr, refl, sym, subst, ap}
use Rattle.std.specs.Prelude.{All}
use Rattle.ds_base.specs.Values.{Row}
use Rattle.ds_base.specs.declared.number.Mode.{Mode}
use Rattle.ds_outside.specs.Held.{Held}
use Rattle.ds_outside.specs.declared.files.Which.TheVariants.{Delays, Log}
use Rattle.ds_lines.specs.Line.{Line}
use Rattle.ds_lines.specs.declared.at.At.{At}
use Rattle.ds_marked.specs.Graph.{Graph, IsLegal, IsLegalFrom, counted}
use Rattle.ds_marked.specs.Log.{IsLegalLogFrom}
use Rattle.ds_design.specs.Accepted.{IsAccepted}
use Rattle.ds_design.specs.Circuit.{Circuit, columns}
use Rattle.ds_design.specs.InRange.{IsInRange}
use Rattle.ds_design.specs.Rows.{Rows}
use Rattle.ds_latch.specs.Node.{Split}
use Rattle.ds_latch.specs.Plan.{IsPlan, Planned}
use Rattle.ds_period.specs.Read.{delays_of}
use Rattle.ds_replay.specs.Legal.{words_of_lines}
use Rattle.ds_replay.specs.Replay.{log_of, replay_of}
use Rattle.ds_replay.specs.ReplayText.{IsReplayText}
use Rattle.ds_replay.specs.declared.fault.ReplayKind.{ReplayKind}
use Rattle.ds_replay.proofs.LogLines.{legal}
use Rattle.ds_graph_laws.proofs.DesignsDecided.{designs_have_depth}
use Rattle.ds_graph_laws.proofs.RanksOrCycle.{live_graphs_have_ranks}
use Rattle.ds_table_laws.specs.Texts.{IsPlannedRun}
use Rattle.ds_table_laws.proofs.ReplayTextsExist.{replay_texts_exist}
use Rattle.ds_table_laws.proofs.RunTextsExist.{run_texts_exist}
use Rattle.ds_table_laws.proofs.SomeTrace.{traces_exist}
use Rattle.ds_table_laws.proofs.StoppedTextsExist.{stopped_texts_exist}
use Rattle.ds_graph_laws.proofs.TimedGraphs.{plans_are_timed}
use Rattle.ds_stage.specs.AcceptStage.{ranks_stage, ranks_text}
use Rattle.ds_stage.specs.FaultText.{numbered_line}
use Rattle.ds_stage.specs.PeriodStage.{IsPeriodText, delay_text, delays_stage, given_stage, period_text, timed_stage}
use Rattle.ds_stage.specs.PlanStage.{planned_stage}
use Rattle.ds_stage.specs.Report.{report_text}
use Rattle.ds_stage.specs.ReplayStage.{fired_stage, log_stage, log_text, replayed_stage}
use Rattle.ds_stage.specs.Stage.{giving, then_stage}
use Rattle.ds_stage.specs.Stages.{lines_stage, read_or_line, report_stage, trace_stage, vectors_stage}
use Rattle.ds_stage.specs.StreamStage.{most_vectors, streamed_stage}
use Rattle.ds_stage.proofs.FileMeaning.{read_meant, vectors_wide}
use Rattle.ds_stage.proofs.PlanAccepted.{planned_circuit, planned_in_clusters, planned_is_plan}
use Rattle.ds_stage.proofs.Streamed.{streamed_wide}
use Rattle.ds_app.specs.JobStages.{clock_stage}
use Rattle.ds_app.specs.RunStage.{planned_run_stage, stopped_stage, traced_stage}
use Rattle.ds_total_laws.specs.Decided.{IsDecided}
use Rattle.ds_total_laws.specs.FileBytes.{HasBytes}
use Rattle.ds_total_laws.proofs.StagesDecided.{lines_decided, result_decided, then_decided, vectors_decided}
use Rattle.ds_total_laws.proofs.StreamDecided.{streamed_decided}

-- what a legal log fires is a legal list
legal_events : (g : Graph) (limit : ℕ) (lines : List (List (List ℕ))) (count : ℕ → ℕ) (events : List ℕ) → IsLegalLogFrom g limit count lines events → IsLegalFrom g limit count events
legal_events g limit [] count [] log = tt
legal_events g limit [] count (v ∷ events) log = absurd log
legal_events g limit (line ∷ lines) count [] log = absurd log
legal_events g limit (line ∷ lines) count (v ∷ events) (first, rest) = (first.enabled, legal_events g limit lines (counted v count) events rest)

-- and so is what a log of lines fires
fired_legal : (g : Graph) (limit : ℕ) (lines : List Line) (events : List ℕ) → replay_of g limit lines ≡ Ok events → IsLegal g limit events
fired_legal g limit lines events fires =
    legal_events g limit (words_of_lines (log_of lines)) (λ _. 0) events (legal g limit (λ _. 0) (log_of lines) events fires)

-- the lines of a log fire events, or have a fault
fired_decided : (file : List ℕ) (p : Planned) (vectors : List Row) (lines : List Line) → IsDecided (fired_stage file p vectors lines)
fired_decided file p vectors lines = told (replay_of p.graph (length vectors) lines)
  where
    told : (r : Result (List ℕ) (At ReplayKind)) → ((events : List ℕ) × (r ≡ Ok events))
        ⊎ ((line : List ℕ) × ((fault : At ReplayKind) × (r ≡ Err fault) × (line ≡ numbered_line file fault.line (log_text p.graph fault.kind))))
    told (Ok events) = inl (events, refl)
    told (Err fault) = inr (numbered_line file fault.line (log_text p.graph fault.kind), (fault, refl, refl))

module _ (held : List ℕ → Held) where
  module _ (c : Circuit) (range : IsInRange c) (accepts : IsAccepted c) where
    -- a netlist has a report
    pub report_decided : IsDecided (report_stage c)
    report_decided = (let (depth, is) = designs_have_depth c range accepts in inl (report_text c depth, (depth, is, refl)))

    -- and a trace on the vectors of a file with bytes, or a line of them has a fault
    pub clock_decided : (vec : List ℕ) → HasBytes (held vec) → IsDecided (clock_stage held vec c)
    clock_decided vec has_bytes =
        then_decided (streamed_stage held vec (most_vectors false) c) (trace_stage c) (streamed_decided held vec (most_vectors false) c has_bytes)
        (λ vectors read. inl (traces_exist c range accepts vectors.rows (streamed_wide held vec (most_vectors false) c vectors read)))

    module _ (net : List ℕ) (graph groups : Option (List ℕ)) (mode : Mode) (slack : ℕ) (p : Planned) (planned : (planned_stage held net graph groups mode slack c).means p) where
      same : p.split.circuit ≡ c
      same = planned_circuit held net graph groups mode slack c p planned

      is_plan : IsPlan p.split p.graph
      is_plan = planned_is_plan held net graph groups mode slack c p accepts planned

      runnable : (vectors : List Row) → All (λ vector. length vector ≡ length (columns c)) vectors → IsPlannedRun p vectors
      runnable vectors wide = record {
        accepted = is_plan;
        in_range = subst IsInRange (sym same) range;
        wide = subst (λ (d : Circuit). All (λ vector. length vector ≡ length (columns d)) vectors) (sym same) wide;
      }

      -- a run with a plan has a text, or a line of its vectors has a fault
      pub run_decided : (vec : List ℕ) (log : Bool) (jobs : ℕ) (stop : Option ℕ) → HasBytes (held vec) → 1 ≤ jobs → IsDecided (planned_run_stage held vec log jobs stop c p)
      run_decided vec log jobs None has_bytes some =
          then_decided (streamed_stage held vec (most_vectors log) c) (traced_stage log c p) (streamed_decided held vec (most_vectors log) c has_bytes) (λ vectors read.
          let (text, is) = run_texts_exist p vectors.rows (runnable vectors.rows (streamed_wide held vec (most_vectors log) c vectors read)) log in
          inl (text, (same, is)))
      run_decided vec log jobs (Some stop) has_bytes some =
          then_decided (vectors_stage held vec c) (stopped_stage log jobs stop c p) (vectors_decided held vec c has_bytes) (λ vectors read.
          let (text, is) = stopped_texts_exist p vectors.rows (runnable vectors.rows (vectors_wide held vec c vectors read)) log stop jobs some in
          inl (text, (same, is)))

      -- the slack of a plan is that of its job
      slack_is : p.split.slack ≡ slack
      slack_is = (let (s, in_clusters, split_is) = planned_in_clusters held net graph groups mode slack c p planned in ap (λ (t : Split). t.slack) split_is)

      -- a log has a text, or a fault
      replayed_decided : (log : List ℕ) (transparent : Bool) (vectors : List Row) → HasBytes (held log) → (transparent ≡ true → slack ≡ 0)
          → All (λ vector. length vector ≡ length (columns c)) vectors → IsDecided (replayed_stage held log transparent p vectors)
      replayed_decided log transparent vectors has_bytes without wide =
          then_decided (log_stage held log p vectors) (λ (events : List ℕ). giving (IsReplayText transparent p vectors events))
          (then_decided (lines_stage held Log log) (fired_stage log p vectors) (lines_decided held Log log has_bytes) (λ lines is. fired_decided log p vectors lines))
          (λ events (lines, are, fires).
          inl (replay_texts_exist p vectors (runnable vectors wide) transparent (λ wanted. slack_is ∙ without wanted) events (fired_legal p.graph (length vectors) lines events fires)))

      -- with the vectors of a file
      pub replay_decided : (vec log : List ℕ) (transparent : Bool) → HasBytes (held vec) → HasBytes (held log) → (transparent ≡ true → slack ≡ 0)
          → IsDecided (then_stage (vectors_stage held vec c) (λ (vectors : Rows). replayed_stage held log transparent p vectors.rows))
      replay_decided vec log transparent has_bytes logged without =
          then_decided (vectors_stage held vec c) (λ (vectors : Rows). replayed_stage held log transparent p vectors.rows) (vectors_decided held vec c has_bytes)
          (λ vectors read. replayed_decided log transparent vectors.rows logged without (vectors_wide held vec c vectors read))

      -- the events of a plan have ranks
      pub ranks_decided : IsDecided (ranks_stage p)
      ranks_decided = (let (ranks, are) = live_graphs_have_ranks p.graph is_plan.live in inl (ranks_text p.graph ranks, (ranks, are, refl)))

      -- and a period with the delays of a file with bytes, or a line of them has a fault
      pub timed_decided : (file : List ℕ) → HasBytes (held file) → IsDecided (timed_stage held file p.graph)
      timed_decided file has_bytes =
          then_decided (delays_stage held file p.graph) (λ (delays : List ℕ). giving (IsPeriodText p.graph delays))
          (then_decided (lines_stage held Delays file) (given_stage file p.graph) (lines_decided held Delays file has_bytes) (λ lines are. result_decided (read_or_line file delay_text (delays_of p.graph lines))))
          (λ delays (lines, are, read).
          let (q, r, cycle, potentials, period) = plans_are_timed p.split p.graph is_plan lines delays (read_meant file delay_text (delays_of p.graph lines) delays read) in
          inl (period_text p.graph q r cycle potentials, record { p = q; q = r; cycle = cycle; potentials = potentials; period = period; spelt = refl }))
