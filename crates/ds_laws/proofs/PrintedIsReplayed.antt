-- What a run with its log prints is replayed to its end.
use Rattle.std.proofs.Common.{◌≡◌, ◌≢◌, ◌∙◌, ℕ, ◌*◌, ◌<◌, ◌≤◌, Bool, true, false, List, [], ◌++◌, length, get_or, Option, ◌⊎◌, inl, inr, refl, arith, ap, sym, subst}
use Rattle.std.proofs.lemmas.Bool.{cases_lt}
use Rattle.std.proofs.lemmas.List.{append-nil, get_or_default}
use Rattle.std.specs.Prelude.{All}
use Rattle.std.specs.List.{flat_map, range_with_len}
use Rattle.ds_base.specs.Limit.{most_of}
use Rattle.ds_base.specs.Values.{Row}
use Rattle.ds_base.specs.declared.number.Limit.TheVariants.{Bytes}
use Rattle.ds_base.specs.declared.number.Mode.{Mode}
use Rattle.ds_outside.specs.Held.{Held, untold, bytes}
use Rattle.ds_marked.specs.Graph.{IsLegal, counts_after}
use Rattle.ds_design.specs.Accepted.{IsAccepted}
use Rattle.ds_design.specs.Circuit.{Circuit, columns}
use Rattle.ds_design.specs.InRange.{IsInRange}
use Rattle.ds_design.specs.Rows.{Rows}
use Rattle.ds_design.specs.Run.{IsRun}
use Rattle.ds_latch.specs.Node.{Split, members}
use Rattle.ds_latch.specs.Plan.{IsPlan, IsSplit, Planned}
use Rattle.ds_latch.specs.Firing.{State, first_state, FiresAll, held as held_of}
use Rattle.ds_latch.specs.Headline.{Desynchronizes, StandsAt, values_stored}
use Rattle.ds_marked.specs.Progress.{HasFiredAll}
use Rattle.ds_latch.specs.Transparent.{IsShowing}
use Rattle.ds_latch.proofs.Headline.{headline}
use Rattle.ds_netlist.specs.Laws.{FaultsAreRefused}
use Rattle.ds_split.specs.Laws.{OneGroupedClustering}
use Rattle.ds_rows.specs.Log.{fired_line, stored_text}
use Rattle.ds_rows.specs.Nets.{register_of}
use Rattle.ds_rows.specs.StateText.{IsStateText}
use Rattle.ds_cmd.specs.declared.job.Job.TheVariants.{Run, Replay}
use Rattle.ds_cmd.specs.declared.replay.ReplayJob.{ReplayJob}
use Rattle.ds_cmd.specs.declared.run.RunJob.{RunJob}
use Rattle.ds_stage.specs.Stage.{then_stage}
use Rattle.ds_stage.specs.PlanStage.{planned_stage}
use Rattle.ds_stage.specs.ReplayStage.{log_stage, replayed_stage}
use Rattle.ds_stage.specs.Stages.{netlist_stage, vectors_stage}
use Rattle.ds_stage.proofs.ExclusiveStages.{netlist_exclusive, vectors_exclusive}
use Rattle.ds_stage.proofs.LogRead.{log_one, log_read}
use Rattle.ds_stage.proofs.ShortStream.{short_is_whole}
use Rattle.ds_stage.proofs.FileMeaning.{netlist_in_range, vectors_few, vectors_wide}
use Rattle.ds_stage.proofs.OwnWords.{planned_words}
use Rattle.ds_stage.proofs.PlanAccepted.{planned_circuit, planned_is_plan}
use Rattle.ds_stage.proofs.PlanExclusive.{planned_exclusive}
use Rattle.ds_replay.specs.OpenLines.{open_lines}
use Rattle.ds_replay.specs.ReplayText.{IsReplayText}
use Rattle.ds_table_laws.proofs.LegalListsExist.{whole_long}
use Rattle.ds_laws.specs.Logs.{IsFiredWhole, IsShort, ReplaysAll, SaysAllFired, logged_run, replay_after}
use Rattle.ds_laws.proofs.LoggedIsFired.{logged_is_fired}
use Rattle.ds_laws.proofs.NothingOpen.{no_open_lines, none_open}
use Rattle.ds_laws.proofs.OneState.{state_one}
use Rattle.ds_run.specs.RunText.{IsRunText}
use Rattle.ds_app.specs.JobStages.{replay_stage}
use Rattle.ds_app.specs.Job.{stages_of}
use Rattle.ds_app.specs.Status.{AreTold, IsToldIn}
use Rattle.ds_app.proofs.ExclusiveJobs.{told_file}

-- a register of a split design stands in a cluster
stands : (s : Split) → IsSplit s → (r : ℕ) → r < length s.circuit.registers → (cluster : ℕ) × (place : ℕ) × StandsAt s r cluster place
stands s split r low =
    let (i, registers, inside, at, (k, here, is)) = split.covered r low in
    let same : members s i ≡ registers = get_or_default s.clusters i [] registers inside ∙ at in
    let low_place : k < length (members s i) = subst (λ (rs : List ℕ). k < length rs) (sym same) here in
    let found : get_or (members s i) k r ≡ r = ap (λ (rs : List ℕ). get_or rs k r) same ∙ is in
    (i, k, record { is_cluster = inside; inside = low_place; here = get_or_default (members s i) k 0 r low_place ∙ found })

-- so each register has some values that it has stored
module _ (s : Split) (split : IsSplit s) (now : State) where
  values_by : (r : ℕ) → (r < length s.circuit.registers) ⊎ (length s.circuit.registers ≤ r) → Row
  values_by r (inl low) = let (cluster, place, at) = stands s split r low in values_stored now cluster place
  values_by r (inr high) = []

  are_values : (r : ℕ) (which : (r < length s.circuit.registers) ⊎ (length s.circuit.registers ≤ r)) → r < length s.circuit.registers
      → (cluster : ℕ) × (place : ℕ) × StandsAt s r cluster place × (values_by r which ≡ values_stored now cluster place)
  unfolding values_by
  are_values r (inl low) inside = let (cluster, place, at) = stands s split r low in (cluster, place, at, refl)
  are_values r (inr high) inside = absurd (omega (arith, high, inside))

-- a plan, its vectors, and a list that has each event once a vector
module _ (p : Planned) (plan : IsPlan p.split p.graph) (vectors : List Row) (events : List ℕ) (legal : IsLegal p.graph (length vectors) events)
    (all : HasFiredAll p.graph (length vectors) (counts_after (λ _. 0) events)) where
  -- as many firings as there may be
  as_many : length events ≡ length p.graph.events * length vectors
  as_many = whole_long p.graph (length vectors) events legal all

  -- the text says so
  state_says : (text : List ℕ) → IsStateText p vectors events text → SaysAllFired text
  state_says text is =
      let most : ℕ = length p.graph.events * length vectors in
      let front : List ℕ = flat_map (λ r. stored_text (register_of p.split.circuit r) (is.values r)) (range_with_len 0 (length p.split.circuit.registers)) in
      (front, most, is.spelt ∙ ap (λ (n : ℕ). front ++ fired_line n most) as_many)

  -- a text is that of the state alone: nothing is open
  state_alone : (transparent : Bool) (text : List ℕ) → IsReplayText transparent p vectors events text → IsStateText p vectors events text
  state_alone false text is = is
  state_alone true text is =
      let none : open_lines is.is_stored.now.count is.shown (length p.split.clusters) ≡ [] =
      no_open_lines p.split p.graph plan vectors events (first_state p.split) is.is_stored.now refl all is.is_stored.fires is.shown in
      let whole : text ≡ is.stored = is.spelt ∙ (ap (λ (lines : List ℕ). is.stored ++ lines) none ∙ append-nil is.stored) in
      subst (IsStateText p vectors events) (sym whole) is.is_stored

  pub says : (transparent : Bool) (text : List ℕ) → IsReplayText transparent p vectors events text → SaysAllFired text
  says transparent text is = state_says text (state_alone transparent text is)

  -- so there is no other
  pub one_text : (state nets : ℕ → Row) → IsRun p.split.circuit p.split.initial vectors state nets → (transparent : Bool) (text other : List ℕ)
      → IsReplayText transparent p vectors events text → IsReplayText transparent p vectors events other → text ≡ other
  one_text state nets run transparent text other is also =
      state_one p plan vectors state nets run events legal text other (state_alone transparent text is) (state_alone transparent other also)

  -- there is a text
  module _ (now : State) (fires : FiresAll p.split vectors (first_state p.split) events now) where
    values_of : ℕ → Row
    values_of r = values_by p.split plan.split now r (cases_lt r (length p.split.circuit.registers))

    state_is : List ℕ
    state_is = flat_map (λ r. stored_text (register_of p.split.circuit r) (values_of r)) (range_with_len 0 (length p.split.circuit.registers))
        ++ fired_line (length events) (length p.graph.events * length vectors)

    is_state : IsStateText p vectors events state_is
    unfolding state_is values_of
    is_state = record {
      now = now;
      fires = fires;
      values = values_of;
      stored = λ r inside. are_values p.split plan.split now r (cases_lt r (length p.split.circuit.registers)) inside;
      spelt = refl;
    }

    shows : IsShowing p.split vectors now (held_of p.split now)
    shows = record {
      is_closed = λ n is_node same. refl;
      is_open = λ n is_node opened. absurd (none_open p.split p.graph plan vectors events (first_state p.split) now refl all fires n is_node opened);
    }

    pub some_text : (transparent : Bool) → (text : List ℕ) × IsReplayText transparent p vectors events text
    unfolding is_state
    some_text false = (state_is, is_state)
    some_text true = (
      state_is ++ open_lines now.count (held_of p.split now) (length p.split.clusters),
      record { stored = state_is; is_stored = is_state; shown = held_of p.split now; showing = shows; spelt = refl },
    )

module _ (held : List ℕ → Held) (net vec log : List ℕ) (graph groups : Option (List ℕ)) (mode : Mode) (slack : ℕ) (transparent : Bool)
    (printed : List ℕ) (is_log : held log ≡ bytes printed) (short : length printed ≤ most_of Bytes)
    (c : Circuit) (netlist : (netlist_stage held net).means c) (p : Planned) (planned : (planned_stage held net graph groups mode slack c).means p)
    (vectors : Rows) (read : (vectors_stage held vec c).means vectors) (told : IsToldIn held graph) (logged : IsRunText true p vectors.rows printed) where
  plan_is : IsPlan p.split p.graph
  plan_is =
      let (flat, is_flat, (is, accepted)) = netlist in
      planned_is_plan held net graph groups mode slack c p (subst (λ (d : Circuit). IsAccepted d) (sym is) accepted) planned

  whole : IsFiredWhole p (length vectors.rows) printed
  whole =
      let few : length vectors.rows ≤ 65536 = vectors_few held vec c vectors read in
      logged_is_fired p (planned_words held net graph groups mode slack (told_file held graph told) c p planned) vectors.rows (omega (arith, few)) printed logged

  runs : Desynchronizes p.split p.graph vectors.rows
  runs =
      let same : c ≡ p.split.circuit = sym (planned_circuit held net graph groups mode slack c p planned) in
      headline p.split p.graph plan_is
      (subst IsInRange same (netlist_in_range held net c netlist))
      vectors.rows
      (subst (λ (d : Circuit). All (λ vector. length vector ≡ length (columns d)) vectors.rows) same (vectors_wide held vec c vectors read))

  -- the log is read and fired to its end
  is_read : (log_stage held log p vectors.rows).means whole.events
  is_read = log_read held log printed is_log short p vectors.rows whole.events whole.fires

  pub text_there : (text : List ℕ) × (replayed_stage held log transparent p vectors.rows).means text
  text_there =
      let (now, fires) = (runs.all whole.events whole.legal).fires in
      let (text, is) = some_text p plan_is vectors.rows whole.events whole.legal whole.all now fires transparent in
      (text, (whole.events, is_read, is))

  -- and it alone, and says so
  pub text_alone : (text : List ℕ) → (replayed_stage held log transparent p vectors.rows).means text → text ≡ text_there.0
  text_alone text (events, means, is) =
      let (found, (known, read_so, is_found)) = text_there in
      let one : events ≡ whole.events = log_one held log printed is_log p vectors.rows whole.events events whole.fires means in
      let same : known ≡ whole.events = log_one held log printed is_log p vectors.rows whole.events known whole.fires read_so in
      one_text p plan_is vectors.rows whole.events whole.legal whole.all runs.state runs.nets runs.run transparent text found
      (subst (λ (es : List ℕ). IsReplayText transparent p vectors.rows es text) one is)
      (subst (λ (es : List ℕ). IsReplayText transparent p vectors.rows es found) same is_found)

  pub text_says : SaysAllFired text_there.0
  text_says =
      let (found, (known, read_so, is_found)) = text_there in
      let same : known ≡ whole.events = log_one held log printed is_log p vectors.rows whole.events known whole.fires read_so in
      says p plan_is vectors.rows whole.events whole.legal whole.all transparent found
      (subst (λ (es : List ℕ). IsReplayText transparent p vectors.rows es found) same is_found)

module _ (faults : FaultsAreRefused) (one : OneGroupedClustering) (held : List ℕ → Held) (job : ReplayJob)
    (told_net : held job.net ≢ untold) (told_vec : held job.vec ≢ untold) (told : IsToldIn held job.graph) (grouped : IsToldIn held job.groups) where
  -- a text of the job is one of the netlist, the plan and the vectors that there are
  pub of_these : (c : Circuit) → (netlist_stage held job.net).means c → (p : Planned) → (planned_stage held job.net job.graph job.groups job.clusters job.slack c).means p
      → (vectors : Rows) → (vectors_stage held job.vec c).means vectors
      → (text : List ℕ) → (then_stage (netlist_stage held job.net) (replay_stage held job)).means text
      → (replayed_stage held job.log job.transparent p vectors.rows).means text
  of_these c netlist p planned vectors read text (c', netlist', rest) =
      let same_c : c' ≡ c = (netlist_exclusive faults held job.net told_net).one c' c netlist' netlist in
      let (p', planned', rest') = subst (λ (d : Circuit). (replay_stage held job d).means text) same_c rest in
      let same_p : p' ≡ p = (planned_exclusive one held job.net job.graph job.groups job.clusters job.slack (told_file held job.graph told) (told_file held job.groups grouped) c).one p' p planned' planned in
      let (vectors', read', rest'') = rest' in
      let same_v : vectors' ≡ vectors = (vectors_exclusive held job.vec c told_vec).one vectors' vectors read' read in
      subst (λ (rows : Rows). (replayed_stage held job.log job.transparent p rows.rows).means text) same_v
      (subst (λ (q : Planned). (replayed_stage held job.log job.transparent q vectors'.rows).means text) same_p rest'')

pub printed_is_replayed : FaultsAreRefused → OneGroupedClustering → (held : List ℕ → Held) (job : RunJob) (log : List ℕ) (transparent : Bool) (printed : List ℕ)
    → AreTold held (Run (logged_run job)) → (stages_of held (Run (logged_run job))).means printed
    → held log ≡ bytes printed → IsShort (held log) → IsShort (held job.vec)
    → ReplaysAll held (Replay (replay_after job log transparent))
printed_is_replayed faults one held job log transparent printed (told_net, told_vec, told, grouped)
    (c, netlist, (p, planned, (vectors, streamed, (same, logged)))) is_log short_log short_vec =
    let short : length printed ≤ most_of Bytes = short_log printed is_log in
    let read : (vectors_stage held job.vec c).means vectors = short_is_whole held job.vec c vectors told_vec short_vec streamed in
    let there = text_there held job.net job.vec log job.graph job.groups job.clusters job.slack transparent printed is_log short c netlist p planned vectors read told logged in
    record {
      text = there.0;
      is_text = (c, netlist, (p, planned, (vectors, read, there.1)));
      one = λ other means.
          text_alone held job.net job.vec log job.graph job.groups job.clusters job.slack transparent printed is_log short c netlist p planned vectors read told logged other
          (of_these faults one held (replay_after job log transparent) told_net told_vec told grouped c netlist p planned vectors read other means);
      says = text_says held job.net job.vec log job.graph job.groups job.clusters job.slack transparent printed is_log short c netlist p planned vectors read told logged;
    }
