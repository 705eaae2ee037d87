-- What a stopped run with its log prints is replayed to where it stopped.
use Rattle.std.proofs.Common.{◌≡◌, ◌≢◌, ◌∙◌, ℕ, ◌*◌, ◌<◌, ◌≤◌, ◌^◌, true, false, List, ◌++◌, length, Option, None, Some, Ok, arith, ap, append_assoc, sym, subst}
use Rattle.std.specs.Prelude.{All, codes, min}
use Rattle.std.proofs.lemmas.Nat.{mul-le}
use Rattle.ds_base.specs.Limit.{most_of}
use Rattle.ds_base.specs.declared.number.Limit.TheVariants.{Bytes}
use Rattle.ds_base.specs.declared.number.Mode.{Mode}
use Rattle.ds_outside.specs.Held.{Held, untold, bytes}
use Rattle.ds_lines.specs.Line.{lines_of}
use Rattle.ds_marked.specs.Graph.{IsKept}
use Rattle.ds_marked.specs.Log.{IsLog}
use Rattle.ds_design.specs.Accepted.{IsAccepted}
use Rattle.ds_design.specs.Circuit.{Circuit, columns}
use Rattle.ds_design.specs.InRange.{IsInRange}
use Rattle.ds_design.specs.Rows.{Rows}
use Rattle.ds_latch.specs.Plan.{IsPlan, Planned}
use Rattle.ds_latch.specs.Headline.{Desynchronizes}
use Rattle.ds_latch.proofs.Headline.{headline}
use Rattle.ds_netlist.specs.Laws.{FaultsAreRefused}
use Rattle.ds_split.specs.Laws.{OneGroupedClustering}
use Rattle.ds_rows.specs.Nets.{register_of}
use Rattle.ds_rows.specs.StateText.{IsStateText}
use Rattle.ds_cmd.specs.declared.job.Job.TheVariants.{Run, Replay}
use Rattle.ds_cmd.specs.declared.run.RunJob.{RunJob}
use Rattle.ds_replay.specs.Printed.{IsFront}
use Rattle.ds_replay.specs.Replay.{replay_of}
use Rattle.ds_replay.proofs.PrintedLogs.{printed_behind}
use Rattle.ds_stage.specs.PlanStage.{planned_stage}
use Rattle.ds_stage.specs.ReplayStage.{replayed_stage}
use Rattle.ds_stage.specs.Stages.{netlist_stage, vectors_stage}
use Rattle.ds_stage.proofs.LogRead.{log_one, log_read}
use Rattle.ds_stage.proofs.FileMeaning.{netlist_in_range, vectors_few, vectors_wide}
use Rattle.ds_stage.proofs.OwnWords.{planned_words}
use Rattle.ds_stage.proofs.PlanAccepted.{planned_circuit, planned_is_plan}
use Rattle.ds_run.specs.Stopped.{IsStoppedText}
use Rattle.ds_app.specs.Job.{stages_of}
use Rattle.ds_app.specs.Status.{AreTold, IsToldIn}
use Rattle.ds_app.proofs.ExclusiveJobs.{told_file}
use Rattle.ds_laws.specs.Names.{NamesArePlain, IsPlainName}
use Rattle.ds_laws.specs.Logs.{IsShort, ReplaysFront, replay_after, stopped_run}
use Rattle.ds_laws.proofs.StateLines.{state_is_front}
use Rattle.ds_laws.proofs.OneState.{state_one}
use Rattle.ds_laws.proofs.PrintedIsReplayed.{of_these}

-- the graph of a plan has few events
planned_kept : (held : List ℕ → Held) (net : List ℕ) (graph groups : Option (List ℕ)) (mode : Mode) (slack : ℕ) (c : Circuit) (p : Planned)
    → (planned_stage held net graph groups mode slack c).means p → IsKept p.graph
planned_kept held net None groups mode slack c p (s, is, own) = own.graph.kept
planned_kept held net (Some file) groups mode slack c p (s, is, (lines, are, (g, read, named))) = named.plan_kept

least : (a b c : ℕ) → a ≤ min b c → a ≤ c
least a b c h = omega (arith, h)

module _ (plain : NamesArePlain) (held : List ℕ → Held) (net vec log : List ℕ) (graph groups : Option (List ℕ)) (mode : Mode) (slack jobs stop : ℕ)
    (printed : List ℕ) (is_log : held log ≡ bytes printed) (short : length printed ≤ most_of Bytes)
    (c : Circuit) (netlist : (netlist_stage held net).means c) (p : Planned) (planned : (planned_stage held net graph groups mode slack c).means p)
    (vectors : Rows) (read : (vectors_stage held vec c).means vectors) (told_net : held net ≢ untold) (told : IsToldIn held graph)
    (stopped : IsStoppedText true stop jobs p vectors.rows printed) where
  same : c ≡ p.split.circuit
  same = sym (planned_circuit held net graph groups mode slack c p planned)

  plan_is : IsPlan p.split p.graph
  plan_is =
      let (flat, is_flat, (is, accepted)) = netlist in
      planned_is_plan held net graph groups mode slack c p (subst (λ (d : Circuit). IsAccepted d) (sym is) accepted) planned

  runs : Desynchronizes p.split p.graph vectors.rows
  runs =
      headline p.split p.graph plan_is
      (subst IsInRange same (netlist_in_range held net c netlist))
      vectors.rows
      (subst (λ (d : Circuit). All (λ vector. length vector ≡ length (columns d)) vectors.rows) same (vectors_wide held vec c vectors read))

  names : (r : ℕ) → IsPlainName (register_of p.split.circuit r)
  names r = subst (λ (d : Circuit). IsPlainName (register_of d r)) same (plain held net c told_net netlist r)

  -- the lines before the log are whole lines
  few : length vectors.rows ≤ 65536
  few = vectors_few held vec c vectors read

  product : length p.graph.events * length vectors.rows < 2 ^ 64
  product =
      let events : length p.graph.events ≤ 2 ^ 32 = (let kept = (planned_kept held net graph groups mode slack c p planned).few_events in omega (arith, kept)) in
      let all : length p.graph.events * length vectors.rows ≤ 2 ^ 32 * 65536 = mul-le (length p.graph.events) (length vectors.rows) (2 ^ 32) 65536 events few in
      omega (arith, all)

  is_front : IsFront stopped.state
  is_front =
      let most : length stopped.events ≤ length p.graph.events * length vectors.rows = least (length stopped.events) (jobs * stop) (length p.graph.events * length vectors.rows) stopped.most in
      let whole : length p.graph.events * length vectors.rows < 2 ^ 64 = product in
      state_is_front p names vectors.rows stopped.events stopped.state (omega (arith, most, whole)) product stopped.is_state

  -- so the log is fired to its end
  log_lines : List ℕ
  log_lines = stopped.is_behind.0

  logged : IsLog p.graph stopped.events log_lines
  unfolding log_lines
  logged = stopped.is_behind.1

  spelt : printed ≡ stopped.state ++ codes "firings\n" ++ log_lines
  unfolding log_lines
  spelt = stopped.spelt ∙ (ap (λ (t : List ℕ). stopped.state ++ t) stopped.is_behind.2 ∙ sym (append_assoc stopped.state (codes "firings\n") stopped.is_behind.0))

  fires : replay_of p.graph (length vectors.rows) (lines_of printed) ≡ Ok stopped.events
  fires =
      let turns : length vectors.rows ≤ 65536 = few in
      ap (λ (t : List ℕ). replay_of p.graph (length vectors.rows) (lines_of t)) spelt
      ∙ printed_behind p.graph (planned_words held net graph groups mode slack (told_file held graph told) c p planned) (length vectors.rows) (omega (arith, turns))
      stopped.events log_lines stopped.legal logged stopped.state is_front

  pub state_there : (replayed_stage held log false p vectors.rows).means stopped.state
  state_there = (stopped.events, log_read held log printed is_log short p vectors.rows stopped.events fires, stopped.is_state)

  -- and there is no other text
  pub state_alone : (text : List ℕ) → (replayed_stage held log false p vectors.rows).means text → text ≡ stopped.state
  state_alone text (events, means, is) =
      let one : events ≡ stopped.events = log_one held log printed is_log p vectors.rows stopped.events events fires means in
      state_one p plan_is vectors.rows runs.state runs.nets runs.run stopped.events stopped.legal text stopped.state
      (subst (λ (es : List ℕ). IsStateText p vectors.rows es text) one is) stopped.is_state

  pub front_is : (lines : List ℕ) × (printed ≡ stopped.state ++ codes "firings\n" ++ lines)
  front_is = (log_lines, spelt)

pub stopped_is_replayed : NamesArePlain → FaultsAreRefused → OneGroupedClustering → (held : List ℕ → Held) (job : RunJob) (stop : ℕ) (log printed : List ℕ)
    → AreTold held (Run (stopped_run job stop)) → (stages_of held (Run (stopped_run job stop))).means printed
    → held log ≡ bytes printed → IsShort (held log)
    → ReplaysFront held (Replay (replay_after job log false)) printed
stopped_is_replayed plain faults one held job stop log printed (told_net, told_vec, told, grouped)
    (c, netlist, (p, planned, (vectors, read, (_, stopped)))) is_log short_log =
    let short : length printed ≤ most_of Bytes = short_log printed is_log in
    let (lines, front) = front_is plain held job.net job.vec log job.graph job.groups job.clusters job.slack job.jobs stop printed is_log short c netlist p planned vectors read told_net told stopped in
    record {
      text = stopped.state;
      is_text = (
        c,
        netlist,
        (
          p,
          planned,
          (
            vectors,
            read,
            state_there plain held job.net job.vec log job.graph job.groups job.clusters job.slack job.jobs stop printed is_log short c netlist p planned vectors read told_net told stopped,
          ),
        ),
      );
      one = λ other means.
          state_alone plain held job.net job.vec log job.graph job.groups job.clusters job.slack job.jobs stop printed is_log short c netlist p planned vectors read told_net told stopped other
          (of_these faults one held (replay_after job log false) told_net told_vec told grouped c netlist p planned vectors read other means);
      log = lines;
      front = front;
    }
