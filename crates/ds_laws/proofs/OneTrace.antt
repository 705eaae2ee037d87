-- What runs with their logs print has one trace.
use Rattle.std.proofs.Common.{◌≡◌, ◌∙◌, ℕ, ◌+◌, ◌<◌, ◌≤◌, Bool, true, false, not, List, [], ◌∷◌, ◌++◌, length, codes, Option, None, Some, refl, arith, ap, ap₂, sym, subst, nat_lt, lt-ltb, ltb-true, if◌then◌else◌}
use Rattle.ds_outside.specs.Held.{Held, untold, absent, bytes}
use Rattle.ds_lines.specs.Line.{Line}
use Rattle.ds_design.specs.Accepted.{IsAccepted}
use Rattle.ds_design.specs.Circuit.{Circuit, columns}
use Rattle.ds_design.specs.Rows.{Rows}
use Rattle.ds_design.specs.Trace.{IsTrace}
use Rattle.ds_latch.specs.Plan.{Planned}
use Rattle.ds_rows.specs.Vector.{has_bits, has_width}
use Rattle.ds_stream.specs.Bounded.{fault_under}
use Rattle.ds_stream.specs.Stream.{Placed, Stream, longest, placed_lines, row_of_stream, stream_from, stream_of}
use Rattle.ds_stream.specs.declared.fault.StreamKind.{StreamKind}
use Rattle.ds_stream.specs.declared.fault.StreamKind.TheVariants.{TooMany, BadWidth, BadBit}
use Rattle.ds_netlist.specs.Laws.{FaultsAreRefused}
use Rattle.ds_cmd.specs.declared.run.RunJob.{RunJob}
use Rattle.ds_stage.specs.PlanStage.{planned_stage}
use Rattle.ds_stage.specs.Stages.{netlist_stage}
use Rattle.ds_stage.specs.StreamStage.{gives_held, most_vectors, streamed_stage}
use Rattle.ds_stage.proofs.ExclusiveStages.{netlist_exclusive}
use Rattle.ds_stage.proofs.Streamed.{streamed_exclusive}
use Rattle.ds_run.specs.RunText.{IsLoggedTrace}
use Rattle.ds_laws.specs.OneTrace.{IsTraceAndLog, LoggedRunsHaveOneTrace}
use Rattle.ds_laws.proofs.OneText.{trace_one}

-- where there is no fault under a limit there is none under a higher one
no_more : (below above : Bool) (one two : StreamKind) (rest : Option StreamKind) → (below ≡ true → above ≡ true)
    → (if not below then Some one else rest) ≡ None → (if not above then Some two else rest) ≡ None
no_more true true one two rest so none = none
no_more true false one two rest so none = absurd (let e : false ≡ true = so refl in cc)
no_more false above one two rest so none = absurd (cc)

under_more : (most more : ℕ) → most ≤ more → (width seen : ℕ) (words : List (List ℕ)) → fault_under most width seen words ≡ None → fault_under more width seen words ≡ None
under_more most more fits width seen words none =
    no_more (nat_lt seen most) (nat_lt seen more) (TooMany most) (TooMany more)
    (if not (has_width width words) then Some BadWidth else (if not (has_bits width words) then Some BadBit else None))
    (λ e. let low : seen < most = ltb-true seen most e in lt-ltb seen more (omega (arith, low, fits))) none

-- so a stream without a fault is the same under a higher limit
row_more : (fault other : Option StreamKind) (width : ℕ) (line : Line) (s t : Stream) → (fault ≡ None → other ≡ None) → (s.stop ≡ None → t ≡ s)
    → (row_of_stream fault width line s).stop ≡ None → row_of_stream other width line t ≡ row_of_stream fault width line s
row_more None other width line s t so same none = ap₂ (λ (f : Option StreamKind) (r : Stream). row_of_stream f width line r) (so refl) (same none)
row_more (Some kind) other width line s t so same none = absurd (cc)

unless_long : (long : Bool) (stops s t : Stream) → (s.stop ≡ None → t ≡ s) → (if long then stops else s).stop ≡ None → (if long then stops else t) ≡ (if long then stops else s)
unless_long true stops s t same none = refl
unless_long false stops s t same none = same none

module _ (width most more size : ℕ) (fits : most ≤ more) where
  stream_more : (seen : ℕ) (ps : List Placed) → (stream_from width most size seen ps).stop ≡ None → stream_from width more size seen ps ≡ stream_from width most size seen ps
  stream_more seen [] none = refl
  stream_more seen (p ∷ ps) none =
      unless_long (nat_lt longest p.behind.place) _
      (row_of_stream (fault_under most width seen p.line.words) width p.line (stream_from width most size (seen + 1) ps))
      (row_of_stream (fault_under more width seen p.line.words) width p.line (stream_from width more size (seen + 1) ps))
      (row_more (fault_under most width seen p.line.words) (fault_under more width seen p.line.words) width p.line
      (stream_from width most size (seen + 1) ps) (stream_from width more size (seen + 1) ps)
      (under_more most more fits width seen p.line.words) (stream_more (seen + 1) ps)) none

-- vectors that are few enough for a log are few enough without one
gives_more : (h : Held) (width most more : ℕ) → most ≤ more → (vectors : Rows) → gives_held h width most vectors → gives_held h width more vectors
gives_more untold width most more fits vectors is = is
gives_more absent width most more fits vectors is = is
gives_more (bytes text) width most more fits vectors is =
    let same : stream_of width more text ≡ stream_of width most text = stream_more width most more (length text) fits 0 (placed_lines text) is.whole in
    record {
      whole = ap (λ (s : Stream). s.stop) same ∙ is.whole;
      is = is.is ∙ ap (λ (s : Stream). let r : Rows = record { width = width; rows = s.rows } in r) (sym same);
    }

-- a text of a run is its trace and its log
log_of : (held : List ℕ → Held) (job : RunJob) (c : Circuit) → (netlist_stage held job.net).means c
    → (p : Planned) → (planned_stage held job.net job.graph job.groups job.clusters job.slack c).means p
    → (vectors : Rows) → (streamed_stage held job.vec (most_vectors true) c).means vectors
    → (trace text : List ℕ) → IsTrace c vectors.rows trace → (is : IsLoggedTrace p vectors.rows text) → is.trace ≡ trace → IsTraceAndLog held job trace text
log_of held job c netlist p planned vectors streamed trace text traced is same = record {
  circuit = c;
  netlist = netlist;
  plan = p;
  planned = planned;
  vectors = vectors;
  streamed = streamed;
  traced = traced;
  events = is.events;
  legal = is.legal;
  all = is.all;
  log = is.log;
  logged = is.logged;
  spelt = is.spelt ∙ ap (λ (front : List ℕ). front ++ codes "firings\n" ++ is.log) same;
}

-- the same netlist and vectors give one trace
trace_same : (c d : Circuit) → IsAccepted c → (vectors others : Rows) → d ≡ c → others ≡ vectors → (trace other : List ℕ)
    → IsTrace c vectors.rows trace → IsTrace d others.rows other → other ≡ trace
trace_same c d accepts vectors others same_circuit same_vectors trace other is also =
    trace_one c accepts vectors.rows trace other is
    (subst (λ (e : Circuit). IsTrace e vectors.rows other) same_circuit (subst (λ (rows : Rows). IsTrace d rows.rows other) same_vectors also))

pub logged_runs_have_one_trace : FaultsAreRefused → LoggedRunsHaveOneTrace
logged_runs_have_one_trace faults held job other (told_net, told_vec, told, grouped) same_net same_vec text printed (c, netlist, (p, planned, (vectors, streamed, (same, logged)))) (d, netlist', (q, planned', (others, streamed', (same', logged')))) =
    let (flat, is_flat, (is_circuit, accepted)) = netlist in
    let accepts : IsAccepted c = subst (λ (e : Circuit). IsAccepted e) (sym is_circuit) accepted in
    let circuits : d ≡ c =
    (netlist_exclusive faults held job.net told_net).one d c (subst (λ (net : List ℕ). (netlist_stage held net).means d) same_net netlist') netlist in
    let rows : others ≡ vectors =
    (streamed_exclusive held job.vec (most_vectors true) c told_vec).one others vectors
    (subst (λ (e : Circuit). (streamed_stage held job.vec (most_vectors true) e).means others) circuits
    (subst (λ (vec : List ℕ). (streamed_stage held vec (most_vectors true) d).means others) same_vec streamed')) streamed in
    let first : IsTrace c vectors.rows logged.trace = subst (λ (e : Circuit). IsTrace e vectors.rows logged.trace) same logged.traced in
    let second : IsTrace d others.rows logged'.trace = subst (λ (e : Circuit). IsTrace e others.rows logged'.trace) same' logged'.traced in
    let traces : logged'.trace ≡ logged.trace = trace_same c d accepts vectors others circuits rows logged.trace logged'.trace first second in
    record {
      trace = logged.trace;
      clocked = (c, netlist, (vectors, gives_more (held job.vec) (length (columns c)) (most_vectors true) (most_vectors false) (omega arith) vectors streamed, first));
      of_text = log_of held job c netlist p planned vectors streamed logged.trace text first logged refl;
      of_printed = log_of held other d netlist' q planned' others streamed' logged.trace printed (subst (λ (trace : List ℕ). IsTrace d others.rows trace) traces second) logged' traces;
    }
