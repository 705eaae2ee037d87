-- What `replay` prints is one text.
use Rattle.std.proofs.Common.{◌≡◌, ◌≢◌, ◌∙◌, ◌==◌, ℕ, zero, suc, ◌+◌, ◌≤◌, Bool, true, false, List, [], ◌∷◌, ◌++◌, length, Ok, refl, arith, ap, ap₂, sym, subst, if◌then◌else◌}
use Rattle.std.specs.Prelude.{All}
use Rattle.std.specs.List.{flat_map, range_with_len}
use Rattle.ds_base.specs.Values.{Row}
use Rattle.ds_outside.specs.Held.{Held, untold, absent, bytes}
use Rattle.ds_lines.specs.Line.{Line}
use Rattle.ds_marked.specs.Graph.{Graph, IsLegal, IsLegalFrom, counted}
use Rattle.ds_marked.specs.Log.{IsLegalLogFrom}
use Rattle.ds_design.specs.Accepted.{IsAccepted}
use Rattle.ds_design.specs.Circuit.{Circuit, columns}
use Rattle.ds_design.specs.InRange.{IsInRange}
use Rattle.ds_design.specs.Run.{IsRun}
use Rattle.ds_latch.specs.Node.{Split, IsNode, opening, closing, place_of}
use Rattle.ds_latch.specs.declared.node.Node.{Node}
use Rattle.ds_latch.specs.declared.node.Node.TheVariants.{In, Out, Master, Slave}
use Rattle.ds_latch.specs.Plan.{IsPlan, Planned}
use Rattle.ds_latch.specs.Firing.{State, first_state, FiresAll, held as held_of}
use Rattle.ds_latch.specs.Headline.{Desynchronizes}
use Rattle.ds_latch.proofs.OrderTokens.{accepted_controls}
use Rattle.ds_latch.proofs.Flow.{flow_equivalence}
use Rattle.ds_latch.proofs.Headline.{headline}
use Rattle.ds_latch.proofs.TransparentLatches.{transparent_latches}
use Rattle.ds_netlist.specs.Laws.{FaultsAreRefused}
use Rattle.ds_split.specs.Laws.{OneGroupedClustering}
use Rattle.ds_cmd.specs.Allowed.{AreAllowed}
use Rattle.ds_cmd.specs.declared.job.Job.TheVariants.{Replay}
use Rattle.ds_cmd.specs.declared.replay.ReplayJob.{ReplayJob}
use Rattle.ds_rows.specs.Log.{open_text}
use Rattle.ds_replay.specs.Legal.{words_of_lines}
use Rattle.ds_replay.specs.OpenLines.{open_line_of, open_lines, open_pair}
use Rattle.ds_replay.specs.Replay.{log_of, replay_of}
use Rattle.ds_replay.specs.ReplayText.{IsReplayText}
use Rattle.ds_replay.proofs.LogLines.{legal}
use Rattle.ds_stage.specs.ReplayStage.{log_stage}
use Rattle.ds_stage.specs.Stages.{OfBytes, text_stage}
use Rattle.ds_stage.proofs.LogRead.{log_one}
use Rattle.ds_stage.proofs.FileMeaning.{netlist_in_range, vectors_wide}
use Rattle.ds_stage.proofs.PlanAccepted.{planned_circuit, planned_in_clusters, planned_is_plan}
use Rattle.ds_app.specs.Job.{stages_of}
use Rattle.ds_app.specs.Status.{AreTold}
use Rattle.ds_laws.proofs.OneState.{state_one}
use Rattle.ds_laws.proofs.PrintedIsReplayed.{of_these}
use Rattle.ds_laws.proofs.NothingOpen.{counts_are}

-- what a legal log fires is a legal list
legal_events : (g : Graph) (limit : ℕ) (lines : List (List (List ℕ))) (count : ℕ → ℕ) (events : List ℕ) → IsLegalLogFrom g limit count lines events → IsLegalFrom g limit count events
legal_events g limit [] count [] log = tt
legal_events g limit [] count (v ∷ events) log = absurd log
legal_events g limit (line ∷ lines) count [] log = absurd log
legal_events g limit (line ∷ lines) count (v ∷ events) (first, rest) = (first.enabled, legal_events g limit lines (counted v count) events rest)

-- lines of open nodes by agreeing counts and rows
module _ (count other : ℕ → ℕ) (shown more : Node → Row) (counts : count ≡ other) (s : Split) (rows : (n : Node) → IsNode s n → shown n ≡ more n) where
  line_agrees : (n : Node) → IsNode s n → open_line_of count shown n ≡ open_line_of other more n
  line_agrees n is_node =
      ap (λ (k : ℕ → ℕ). open_line_of k shown n) counts ∙ ap (λ (row : Row). if other (opening n) == (other (closing n) + 1) then open_text n row else []) (rows n is_node)

  pairs_agree : (a n : ℕ) → a + n ≤ length s.clusters → flat_map (open_pair count shown) (range_with_len a n) ≡ flat_map (open_pair other more) (range_with_len a n)
  pairs_agree a zero within = refl
  pairs_agree a (suc n) within =
      ap₂ (λ (xs ys : List ℕ). xs ++ ys)
      (ap₂ (λ (xs ys : List ℕ). xs ++ ys) (line_agrees (Master a) (omega (arith, within))) (line_agrees (Slave a) (omega (arith, within))))
      (pairs_agree (a + 1) n (omega (arith, within)))

  lines_agree : open_lines count shown (length s.clusters) ≡ open_lines other more (length s.clusters)
  lines_agree =
      ap₂ (λ (xs ys : List ℕ). xs ++ ys) (ap₂ (λ (xs ys : List ℕ). xs ++ ys) (line_agrees In tt) (line_agrees Out tt)) (pairs_agree 0 (length s.clusters) (omega arith))

module _ (p : Planned) (plan : IsPlan p.split p.graph) (vectors : List Row) (state nets : ℕ → Row) (run : IsRun p.split.circuit p.split.initial vectors state nets)
    (events : List ℕ) (legal : IsLegal p.graph (length vectors) events) where
  -- what nodes hold is one row each
  rows_one : p.split.slack ≡ 0 → (now other : State) → FiresAll p.split vectors (first_state p.split) events now → FiresAll p.split vectors (first_state p.split) events other
      → (n : Node) → IsNode p.split n → held_of p.split now n ≡ held_of p.split other n
  rows_one none now other fires also n is_node =
      let controls = accepted_controls p.split p.graph plan in
      let step = flow_equivalence p.split p.graph controls vectors state nets run events legal now fires in
      let same = flow_equivalence p.split p.graph controls vectors state nets run events legal other also in
      let counts : now.count ≡ other.count = counts_are p.split vectors (first_state p.split) now events fires ∙ sym (counts_are p.split vectors (first_state p.split) other events also) in
      let k : ℕ = now.count (opening n) in
      let opened : now.count (opening n) ≡ other.count (opening n) = ap (λ (count : ℕ → ℕ). count (opening n)) counts in
      step.kept n is_node k (omega arith) (omega arith)
      ∙ (sym (same.kept n is_node k (omega (arith, opened)) (omega (arith, opened)))
      ∙ ap (λ (j : ℕ). other.rows n (place_of p.split j)) opened)

  text_one : (transparent : Bool) → (transparent ≡ true → p.split.slack ≡ 0) → (text other : List ℕ)
      → IsReplayText transparent p vectors events text → IsReplayText transparent p vectors events other → text ≡ other
  text_one false none text other is also = state_one p plan vectors state nets run events legal text other is also
  text_one true none text other is also =
      let slack : p.split.slack ≡ 0 = none refl in
      let controls = accepted_controls p.split p.graph plan in
      let now : State = is.is_stored.now in
      let late : State = also.is_stored.now in
      let counts : now.count ≡ late.count =
      counts_are p.split vectors (first_state p.split) now events is.is_stored.fires ∙ sym (counts_are p.split vectors (first_state p.split) late events also.is_stored.fires) in
      let shown : (n : Node) → IsNode p.split n → is.shown n ≡ also.shown n = λ n is_node.
      (transparent_latches p.split p.graph controls slack vectors state nets run events legal now is.is_stored.fires).1 is.shown is.showing n is_node
      ∙ (rows_one slack now late is.is_stored.fires also.is_stored.fires n is_node
      ∙ sym ((transparent_latches p.split p.graph controls slack vectors state nets run events legal late also.is_stored.fires).1 also.shown also.showing n is_node)) in
      is.spelt
      ∙ (ap₂ (λ (xs ys : List ℕ). xs ++ ys)
      (state_one p plan vectors state nets run events legal is.stored also.stored is.is_stored also.is_stored)
      (lines_agree now.count late.count is.shown also.shown counts p.split shown)
      ∙ sym also.spelt)

-- a log that is told fires one list
log_alone : (held : List ℕ → Held) (log : List ℕ) (p : Planned) (vectors : List Row) (h : Held) → held log ≡ h → h ≢ untold → (events other : List ℕ)
    → (log_stage held log p vectors).means events → (log_stage held log p vectors).means other → other ≡ events
log_alone held log p vectors untold is told events other means also = absurd (told refl)
log_alone held log p vectors absent is told events other (lines, there, fires) also =
    absurd (let gone = subst (λ (h : Held). OfBytes h (λ text. (text_stage log text).means lines)) is there in gone)
log_alone held log p vectors (bytes text) is told events other (lines, there, fires) also =
    let lines_are = subst (λ (h : Held). OfBytes h (λ text. (text_stage log text).means lines)) is there in
    log_one held log text is p vectors events other
    (subst (λ (ls : List Line). replay_of p.graph (length vectors) ls ≡ Ok events) lines_are.1 fires) also

-- and that is a legal one
log_legal : (held : List ℕ → Held) (log : List ℕ) (p : Planned) (vectors : List Row) (events : List ℕ) → (log_stage held log p vectors).means events
    → IsLegal p.graph (length vectors) events
log_legal held log p vectors events (lines, there, fires) =
    legal_events p.graph (length vectors) (words_of_lines (log_of lines)) (λ _. 0) events (legal p.graph (length vectors) (λ _. 0) (log_of lines) events fires)

pub replay_has_one_text : FaultsAreRefused → OneGroupedClustering → (held : List ℕ → Held) (job : ReplayJob) → AreAllowed (Replay job) → AreTold held (Replay job)
    → (text other : List ℕ) → (stages_of held (Replay job)).means text → (stages_of held (Replay job)).means other → other ≡ text
replay_has_one_text faults one held job (few, without) (told_net, told_vec, told_log, told, grouped)
    text other (c, netlist, (p, planned, (vectors, read, (events, fired, is)))) also =
    let (more, found, is_also) = of_these faults one held job told_net told_vec told grouped c netlist p planned vectors read other also in
    let same : c ≡ p.split.circuit = sym (planned_circuit held job.net job.graph job.groups job.clusters job.slack c p planned) in
    let (flat, is_flat, (is_design, accepted)) = netlist in
    let plan : IsPlan p.split p.graph = planned_is_plan held job.net job.graph job.groups job.clusters job.slack c p (subst (λ (d : Circuit). IsAccepted d) (sym is_design) accepted) planned in
    let runs : Desynchronizes p.split p.graph vectors.rows =
    headline p.split p.graph plan
    (subst IsInRange same (netlist_in_range held job.net c netlist))
    vectors.rows
    (subst (λ (d : Circuit). All (λ vector. length vector ≡ length (columns d)) vectors.rows) same (vectors_wide held job.vec c vectors read)) in
    let (s, in_clusters, split_is) = planned_in_clusters held job.net job.graph job.groups job.clusters job.slack c p planned in
    let slack : p.split.slack ≡ job.slack = ap (λ (t : Split). t.slack) split_is in
    let events_are : more ≡ events = log_alone held job.log p vectors.rows (held job.log) refl told_log events more fired found in
    sym (text_one p plan vectors.rows runs.state runs.nets runs.run events (log_legal held job.log p vectors.rows events fired) job.transparent
    (λ wanted. slack ∙ without wanted) text other is
    (subst (λ (es : List ℕ). IsReplayText job.transparent p vectors.rows es other) events_are is_also))
