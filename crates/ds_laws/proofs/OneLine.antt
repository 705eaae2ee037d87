-- What refuses a job is one line, but for which cycle it names.
use Rattle.std.proofs.Common.{◌≡◌, ◌≢◌, ◌∙◌, ◌⊎◌, ℕ, ◌≤◌, ◌++◌, Bool, true, false, List, length, map, Option, None, Some, Result, Ok, Err, refl, arith, inl, inr, ap, sym, subst}
use Rattle.std.specs.Prelude.{codes}
use Rattle.ds_base.specs.Limit.{most_of}
use Rattle.ds_base.specs.Values.{Row}
use Rattle.ds_base.specs.declared.number.Limit.{Limit}
use Rattle.ds_base.specs.declared.number.Limit.TheVariants as limit
use Rattle.ds_base.specs.declared.number.Mode.{Mode}
use Rattle.ds_outside.specs.Held.{Held, untold, absent, bytes}
use Rattle.ds_outside.specs.declared.files.Which.{Which}
use Rattle.ds_outside.specs.declared.files.Which.TheVariants as which
use Rattle.ds_lines.specs.Line.{Line}
use Rattle.ds_lines.specs.declared.at.At.{At}
use Rattle.ds_marked.specs.Graph.{Graph, IsKept}
use Rattle.ds_marked.specs.Log.{text_of_event}
use Rattle.ds_design.specs.Circuit.{Circuit, columns}
use Rattle.ds_design.specs.Rows.{Rows}
use Rattle.ds_design.specs.declared.blif.BlifModel.{BlifModel}
use Rattle.ds_blif.specs.Text.{models_of_text}
use Rattle.ds_flat.specs.Copies.{flat_of}
use Rattle.ds_netlist.specs.Laws.{FaultsAreRefused, OneFault, ShowsCycle}
use Rattle.ds_netlist.specs.declared.fault.NetFault.{NetFault}
use Rattle.ds_netlist.specs.declared.fault.NetFault.TheVariants as net
use Rattle.ds_rows.specs.Nets.{text_of_net}
use Rattle.ds_rows.specs.Vector.{vectors_of}
use Rattle.ds_stream.specs.Stream.{Stream, stream_of}
use Rattle.ds_stream.specs.declared.fault.NextFault.{NextFault}
use Rattle.ds_stream.specs.declared.fault.NextFault.TheVariants as why
use Rattle.ds_latch.specs.Node.{Split, slackened}
use Rattle.ds_latch.specs.Plan.{Planned}
use Rattle.ds_split.specs.Grouped.{HasTooManyGrouped}
use Rattle.ds_groups.specs.Names.{register_names}
use Rattle.ds_groups.specs.Read.{groups_of}
use Rattle.ds_split.specs.Laws.{OneGroupedClustering}
use Rattle.ds_accept.specs.Laws.{OneAcceptFault, ShowsTokenFreeCycle}
use Rattle.ds_accept.specs.declared.fault.AcceptFault.{AcceptFault}
use Rattle.ds_accept.specs.declared.fault.AcceptFault.TheVariants as accept
use Rattle.ds_shake.specs.Expansion.{HasTooMany}
use Rattle.ds_shake.specs.Laws.{ArcsFit}
use Rattle.ds_astg.specs.Read.{graph_of_lines}
use Rattle.ds_rank.specs.Order.{IsCycle}
use Rattle.ds_rank.specs.Rank.{HasFreeArc}
use Rattle.ds_rank.proofs.RelatedOrders.{cycle_by}
use Rattle.ds_period.specs.Read.{delays_of}
use Rattle.ds_period.specs.Timing.{HasCycle, Leads}
use Rattle.ds_period.proofs.ClosedWalks.{cycle_closes}
use Rattle.ds_replay.specs.Replay.{replay_of}
use Rattle.ds_replay.specs.ReplayText.{IsReplayText}
use Rattle.ds_replay.specs.declared.fault.ReplayKind.{ReplayKind}
use Rattle.ds_cmd.specs.declared.job.Job.{Job}
use Rattle.ds_cmd.specs.declared.job.Job.TheVariants.{Run, Clock, Check, Graph as GraphCommand, Replay, Accept, Demo, Period, Clusters, Rate, Times}
use Rattle.ds_stage.specs.AcceptStage.{ranks_stage}
use Rattle.ds_stage.specs.FaultText.{IsNetFaultText, blif_text, file_line, flat_text, net_fault_text, numbered_line, too_many_text, vector_text, with_blanks}
use Rattle.ds_stage.specs.GraphStage.{controller_stage, drawn_stage, wanted_stage}
use Rattle.ds_stage.specs.GraphText.{IsAcceptText, accept_text, astg_text}
use Rattle.ds_stage.specs.PeriodStage.{IsPeriodText, delay_text, delays_stage, given_stage, timed_stage}
use Rattle.ds_stage.specs.PlanStage.{IsOwnPlan, acceptable_stage, marked_stage, named_stage, plan_stage, planned_stage}
use Rattle.ds_stage.specs.RateStage.{IsFreeLine, bare_graph_stage, bare_stage, cyclic_stage}
use Rattle.ds_stage.specs.TimesStage.{IsTimesText, scheduled_stage}
use Rattle.ds_stage.specs.ReplayStage.{fired_stage, log_stage, log_text, replayed_stage}
use Rattle.ds_stage.specs.SplitStage.{IsInClusters, parted_stage, split_stage}
use Rattle.ds_stage.specs.ClustersStage.{clustered_stage, clusters_stage, listed_stage}
use Rattle.ds_stage.specs.GroupsStage.{group_text, grouped_stage, groups_stage}
use Rattle.ds_stage.specs.Stage.{IsExclusive, Stage, giving, then_stage}
use Rattle.ds_stage.specs.Stages.{OfBytes, accepted_stage, design_stage, file_stage, lines_stage, netlist_stage, read_or_line, report_stage, result_stage, rows_stage, text_stage, trace_stage, vectors_stage}
use Rattle.ds_stage.specs.StreamStage.{IsFaultLine, IsStreamLine, most_vectors, streamed_stage}
use Rattle.ds_stage.proofs.ExclusiveStages.{lines_exclusive, netlist_exclusive, result_exclusive, then_exclusive, vectors_exclusive}
use Rattle.ds_stage.proofs.RateStages.{bare_exclusive}
use Rattle.ds_stage.proofs.GroupStages.{groups_exclusive}
use Rattle.ds_stage.proofs.PlanExclusive.{planned_exclusive, split_exclusive}
use Rattle.ds_app.specs.Job.{run_stage, stages_of}
use Rattle.ds_app.specs.JobStages.{accept_stage, clock_stage, graph_stage, listing_stage, period_stage, replay_stage, times_stage}
use Rattle.ds_app.specs.RunStage.{planned_run_stage, stopped_stage, traced_stage}
use Rattle.ds_app.specs.Status.{AreTold, IsToldIn}
use Rattle.ds_app.proofs.ExclusiveJobs.{told_file}
use Rattle.ds_laws.specs.OneLine.{JobsHaveOneLine, NameCycles}
use Rattle.ds_text_laws.proofs.ReadKept.{read_kept}

-- two lines are one, but for which cycle they name
abbrev AreOneLine : List ℕ → List ℕ → Type 0
AreOneLine line other = (line ≡ other) ⊎ NameCycles line other

-- a stage is refused by one line at most
abbrev HasOneLine : {A : Type 0} → Stage A → Type 0
HasOneLine {A} stage = (line other : List ℕ) → stage.refused line → stage.refused other → AreOneLine line other

-- a stage that is never refused
abbrev NeverRefused : {A : Type 0} → Stage A → Type 0
NeverRefused {A} stage = (line : List ℕ) → ¬ stage.refused line

never_has : {A : Type 0} (stage : Stage A) → NeverRefused stage → HasOneLine stage
never_has stage never line other is also = absurd (never line is)

-- one stage after another
then_one_line : {A B : Type 0} (first : Stage A) (next : A → Stage B) → IsExclusive first → HasOneLine first → ((a : A) → first.means a → HasOneLine (next a)) → HasOneLine (then_stage first next)
then_one_line {A} {B} first next exclusive here each line other (inl is) (inl also) = here line other is also
then_one_line {A} {B} first next exclusive here each line other (inl is) (inr (a, given, also)) = absurd (exclusive.not_refused a line given is)
then_one_line {A} {B} first next exclusive here each line other (inr (a, given, is)) (inl also) = absurd (exclusive.not_refused a other given also)
then_one_line {A} {B} first next exclusive here each line other (inr (a, given, is)) (inr (b, found, also)) =
    each a given line other is (subst (λ (x : A). (next x).refused other) (exclusive.one b a found given) also)

-- one that is followed by what is never refused
last_one_line : {A B : Type 0} (first : Stage A) (next : A → Stage B) → HasOneLine first → ((a : A) → NeverRefused (next a)) → HasOneLine (then_stage first next)
last_one_line first next here never line other (inl is) (inl also) = here line other is also
last_one_line first next here never line other (inl is) (inr (a, given, also)) = absurd (never a other also)
last_one_line first next here never line other (inr (a, given, is)) also = absurd (never a line is)

-- a line of a file that is too long
text_one_line : (h : Held) (name : List ℕ) → h ≢ untold → (line other : List ℕ) → OfBytes h (λ text. (text_stage name text).refused line)
    → OfBytes h (λ text. (text_stage name text).refused other) → line ≡ other
text_one_line untold name told line other is also = absurd (told refl)
text_one_line absent name told line other is also = absurd is
text_one_line (bytes text) name told line other is also = is.1 ∙ sym also.1

lines_one_line : (held : List ℕ → Held) (kind : Which) (name : List ℕ) → held name ≢ untold → HasOneLine (lines_stage held kind name)
lines_one_line held kind name told line other is also = inl (text_one_line (held name) name told line other is also)

-- the line of what is no value
one_err : {A : Type 0} (r : Result A (List ℕ)) (line other : List ℕ) → r ≡ Err line → r ≡ Err other → line ≡ other
one_err r line other is also = cc

result_one_line : {A : Type 0} (r : Result A (List ℕ)) → HasOneLine (result_stage r)
result_one_line r line other is also = inl (one_err r line other is also)

-- the flat design of lines
design_exclusive : (file : List ℕ) (lines : List Line) → IsExclusive (design_stage file lines)
design_exclusive file lines =
    then_exclusive (result_stage (read_or_line file blif_text (models_of_text lines))) (λ (models : List BlifModel). result_stage (read_or_line file flat_text (flat_of models)))
    (result_exclusive (read_or_line file blif_text (models_of_text lines))) (λ models. result_exclusive (read_or_line file flat_text (flat_of models)))

design_one_line : (file : List ℕ) (lines : List Line) → HasOneLine (design_stage file lines)
design_one_line file lines =
    then_one_line (result_stage (read_or_line file blif_text (models_of_text lines))) (λ (models : List BlifModel). result_stage (read_or_line file flat_text (flat_of models)))
    (result_exclusive (read_or_line file blif_text (models_of_text lines))) (result_one_line (read_or_line file blif_text (models_of_text lines)))
    (λ models is. result_one_line (read_or_line file flat_text (flat_of models)))

file_exclusive : (held : List ℕ → Held) (file : List ℕ) → held file ≢ untold → IsExclusive (file_stage held file)
file_exclusive held file told =
    then_exclusive (lines_stage held which.Net file) (design_stage file) (lines_exclusive held which.Net file told) (design_exclusive file)

file_one_line : (held : List ℕ → Held) (file : List ℕ) → held file ≢ untold → HasOneLine (file_stage held file)
file_one_line held file told =
    then_one_line (lines_stage held which.Net file) (design_stage file) (lines_exclusive held which.Net file told) (lines_one_line held which.Net file told)
    (λ lines is. design_one_line file lines)

one_some : (o : Option (List ℕ)) (text other : List ℕ) → o ≡ Some text → o ≡ Some other → text ≡ other
one_some o text other is also = cc

-- a design that is not accepted
module _ (c : Circuit) (file : List ℕ) where
  net_shown : (fault : NetFault) (text : List ℕ) → IsNetFaultText c fault text → fault ≢ net.Memory
  net_shown fault text shown is =
      let none : net_fault_text c net.Memory ≡ Some text = subst (λ (f : NetFault). net_fault_text c f ≡ Some text) is shown in cc

  net_cycle : (fault : NetFault) (text : List ℕ) → ShowsCycle fault → IsNetFaultText c fault text
      → (words : List (List ℕ)) × (text ≡ codes "combinational cycle:" ++ with_blanks words)
  net_cycle fault text (nets, is) shown =
      let same : net_fault_text c (net.CombinationalCycle nets) ≡ Some text = subst (λ (f : NetFault). net_fault_text c f ≡ Some text) is shown in
      (map (text_of_net c) nets, one_some (net_fault_text c (net.CombinationalCycle nets)) text (codes "combinational cycle:" ++ with_blanks (map (text_of_net c) nets)) same refl)

  accepted_one_line : OneFault → HasOneLine (accepted_stage file c)
  accepted_one_line law line other (fault, text, is, shown, spelt) (fault', text', also, shown', spelt') =
      elim (law c fault fault' (net_shown fault text shown) (net_shown fault' text' shown') is also) [
        | inl same ↦
            let texts : text ≡ text' = one_some (net_fault_text c fault') text text' (subst (λ (f : NetFault). net_fault_text c f ≡ Some text) same shown) shown' in
            inl (spelt ∙ (ap (file_line file) texts ∙ sym spelt'))
        | inr both ↦
            let (words, cycle) = net_cycle fault text both.0 shown in
            let (words', cycle') = net_cycle fault' text' both.1 shown' in
            inr (record {
              file = file;
              text = codes "combinational cycle:";
              of_cycle = inl refl;
              first = (words, spelt ∙ ap (file_line file) cycle);
              second = (words', spelt' ∙ ap (file_line file) cycle');
            })
      ]

netlist_one_line : OneFault → (held : List ℕ → Held) (file : List ℕ) → held file ≢ untold → HasOneLine (netlist_stage held file)
netlist_one_line law held file told =
    then_one_line (file_stage held file) (accepted_stage file) (file_exclusive held file told) (file_one_line held file told) (λ c is. accepted_one_line c file law)

-- a graph that is not acceptable
module _ (file : List ℕ) (s : Split) where
  accept_shown : (g : Graph) (fault : AcceptFault) (text : List ℕ) → IsAcceptText g fault text → fault ≢ accept.Memory
  accept_shown g fault text shown is =
      let none : accept_text g accept.Memory ≡ Some text = subst (λ (f : AcceptFault). accept_text g f ≡ Some text) is shown in cc

  accept_cycle : (g : Graph) (fault : AcceptFault) (text : List ℕ) → ShowsTokenFreeCycle fault → IsAcceptText g fault text
      → (words : List (List ℕ)) × (text ≡ codes "token-free cycle:" ++ with_blanks words)
  accept_cycle g fault text (events, is) shown =
      let same : accept_text g (accept.TokenFreeCycle events) ≡ Some text = subst (λ (f : AcceptFault). accept_text g f ≡ Some text) is shown in
      (map (text_of_event g) events, one_some (accept_text g (accept.TokenFreeCycle events)) text (codes "token-free cycle:" ++ with_blanks (map (text_of_event g) events)) same refl)

  acceptable_one_line : OneAcceptFault → (g : Graph) → IsKept g → HasOneLine (acceptable_stage file s g)
  acceptable_one_line law g kept line other (fault, text, is, shown, spelt) (fault', text', also, shown', spelt') =
      elim (law s g fault fault' kept (accept_shown g fault text shown) (accept_shown g fault' text' shown') is also) [
        | inl same ↦
            let texts : text ≡ text' = one_some (accept_text g fault') text text' (subst (λ (f : AcceptFault). accept_text g f ≡ Some text) same shown) shown' in
            inl (spelt ∙ (ap (file_line file) texts ∙ sym spelt'))
        | inr both ↦
            let (words, cycle) = accept_cycle g fault text both.0 shown in
            let (words', cycle') = accept_cycle g fault' text' both.1 shown' in
            inr (record {
              file = file;
              text = codes "token-free cycle:";
              of_cycle = inr refl;
              first = (words, spelt ∙ ap (file_line file) cycle);
              second = (words', spelt' ∙ ap (file_line file) cycle');
            })
      ]

  -- what is read is what lines stand for
  read_is : {A K : Type 0} (text : K → List ℕ) (r : Result A (At K)) (a : A) → read_or_line file text r ≡ Ok a → r ≡ Ok a
  read_is text (Ok given) a is = let same : given ≡ a = cc in ap (λ x. Ok x) same
  read_is text (Err fault) a is = absurd (cc)

  marked_one_line : OneAcceptFault → (lines : List Line) → HasOneLine (marked_stage file s lines)
  marked_one_line law lines =
      then_one_line (result_stage (read_or_line file astg_text (graph_of_lines lines))) (acceptable_stage file s) (result_exclusive (read_or_line file astg_text (graph_of_lines lines)))
      (result_one_line (read_or_line file astg_text (graph_of_lines lines)))
      (λ g is. acceptable_one_line law g (read_kept lines g (read_is astg_text (graph_of_lines lines) g is)))

  named_one_line : OneAcceptFault → (held : List ℕ → Held) → held file ≢ untold → HasOneLine (named_stage held file s)
  named_one_line law held told =
      then_one_line (lines_stage held which.Graph file) (marked_stage file s) (lines_exclusive held which.Graph file told) (lines_one_line held which.Graph file told)
      (λ lines is. marked_one_line law lines)

plan_one_line : OneAcceptFault → (held : List ℕ → Held) (graph : Option (List ℕ)) → ((file : List ℕ) → graph ≡ Some file → held file ≢ untold) → (s : Split) → HasOneLine (plan_stage held graph s)
plan_one_line law held None told s = never_has (giving (IsOwnPlan s)) (λ line none. none)
plan_one_line law held (Some file) told s = named_one_line file s law held (told file refl)

-- clusters that are few are not too many
few_clusters : OneGroupedClustering → (mode : Mode) (groups : List (List ℕ)) (c : Circuit) (s : Split) → IsInClusters mode groups c s → ¬ HasTooManyGrouped c mode groups
few_clusters law mode groups c s is (clusters, are, many) =
    let same : length is.clusters ≡ length clusters = ap length (law c mode groups is.clusters clusters is.are are) in
    let few : length is.clusters ≤ most_of limit.Clusters = is.few in
    omega arith

-- a split that passes a limit
parted_one_line : OneGroupedClustering → (file : List ℕ) (mode : Mode) (c : Circuit) (groups : List (List ℕ)) → HasOneLine (parted_stage file mode c groups)
parted_one_line law file mode c groups line other (inl (many, spelt)) (inl (more, also)) = inl (spelt ∙ sym also)
parted_one_line law file mode c groups line other (inl (many, spelt)) (inr (s, is, more, also)) = absurd (few_clusters law mode groups c s is many)
parted_one_line law file mode c groups line other (inr (s, is, many, spelt)) (inl (more, also)) = absurd (few_clusters law mode groups c s is more)
parted_one_line law file mode c groups line other (inr (s, is, many, spelt)) (inr (t, at, more, also)) = inl (spelt ∙ sym also)

-- groups that are not read
groups_one_line : (held : List ℕ → Held) (groups : Option (List ℕ)) → ((file : List ℕ) → groups ≡ Some file → held file ≢ untold) → (c : Circuit) → HasOneLine (groups_stage held groups c)
groups_one_line held None told c = never_has (groups_stage held None c) (λ line none. none)
groups_one_line held (Some file) told c =
    then_one_line (lines_stage held which.Groups file) (grouped_stage file c) (lines_exclusive held which.Groups file (told file refl)) (lines_one_line held which.Groups file (told file refl))
    (λ lines is. result_one_line (read_or_line file group_text (groups_of (register_names c) lines)))

split_one_line : OneGroupedClustering → (held : List ℕ → Held) (net : List ℕ) (groups : Option (List ℕ)) (mode : Mode) → ((file : List ℕ) → groups ≡ Some file → held file ≢ untold)
    → (c : Circuit) → HasOneLine (split_stage held net groups mode c)
split_one_line one held net groups mode told c =
    then_one_line (groups_stage held groups c) (parted_stage net mode c) (groups_exclusive held groups told c) (groups_one_line held groups told c)
    (λ gs is. parted_one_line one net mode c gs)

clustered_one_line : (held : List ℕ → Held) (net : List ℕ) (groups : Option (List ℕ)) (mode : Mode) → ((file : List ℕ) → groups ≡ Some file → held file ≢ untold)
    → (c : Circuit) → HasOneLine (clustered_stage held net groups mode c)
clustered_one_line held net groups mode told c =
    then_one_line (groups_stage held groups c) (clusters_stage net mode c) (groups_exclusive held groups told c) (groups_one_line held groups told c)
    (λ gs are line other is also. inl (is.1 ∙ sym also.1))

planned_one_line : OneAcceptFault → OneGroupedClustering → (held : List ℕ → Held) (net : List ℕ) (graph groups : Option (List ℕ)) (mode : Mode) (slack : ℕ)
    → ((file : List ℕ) → graph ≡ Some file → held file ≢ untold) → ((file : List ℕ) → groups ≡ Some file → held file ≢ untold) → (c : Circuit) → HasOneLine (planned_stage held net graph groups mode slack c)
planned_one_line law one held net graph groups mode slack told grouped c =
    then_one_line (split_stage held net groups mode c) (λ (s : Split). plan_stage held graph (slackened s slack)) (split_exclusive one held net groups mode grouped c)
    (split_one_line one held net groups mode grouped c) (λ s is. plan_one_line law held graph told (slackened s slack))

-- the vectors of a file
vectors_one_line : (held : List ℕ → Held) (vec : List ℕ) (c : Circuit) → held vec ≢ untold → HasOneLine (vectors_stage held vec c)
vectors_one_line held vec c told =
    then_one_line (lines_stage held which.Vectors vec) (rows_stage vec (length (columns c))) (lines_exclusive held which.Vectors vec told) (lines_one_line held which.Vectors vec told)
    (λ lines is. result_one_line (read_or_line vec vector_text (vectors_of (length (columns c)) lines)))

-- window by window
stream_line_one : (file : List ℕ) (fault : NextFault) (line other : List ℕ) → IsStreamLine file fault line → IsStreamLine file fault other → line ≡ other
stream_line_one file (why.Vector fault) line other is also = is ∙ sym also
stream_line_one file why.TooLong line other is also = is ∙ sym also
stream_line_one file why.Read line other is also = absurd is
stream_line_one file why.Memory line other is also = absurd is

one_stop : (stop : Option NextFault) (fault other : NextFault) → stop ≡ Some fault → stop ≡ Some other → fault ≡ other
one_stop stop fault other is also = cc

fault_line_one : (file : List ℕ) (s : Stream) (line other : List ℕ) → IsFaultLine file s line → IsFaultLine file s other → line ≡ other
fault_line_one file s line other (fault, is, spelt) (fault', also, spelt') =
    stream_line_one file fault' line other (subst (λ (f : NextFault). IsStreamLine file f line) (one_stop s.stop fault fault' is also) spelt) spelt'

stream_one_line : (h : Held) (width most : ℕ) (file : List ℕ) → h ≢ untold → (line other : List ℕ) → OfBytes h (λ text. IsFaultLine file (stream_of width most text) line)
    → OfBytes h (λ text. IsFaultLine file (stream_of width most text) other) → line ≡ other
stream_one_line untold width most file told line other is also = absurd (told refl)
stream_one_line absent width most file told line other is also = absurd is
stream_one_line (bytes text) width most file told line other is also = fault_line_one file (stream_of width most text) line other is also

streamed_one_line : (held : List ℕ → Held) (vec : List ℕ) (most : ℕ) (c : Circuit) → held vec ≢ untold → HasOneLine (streamed_stage held vec most c)
streamed_one_line held vec most c told line other is also = inl (stream_one_line (held vec) (length (columns c)) most vec told line other is also)

-- a log
one_fault_of : {A K : Type 0} (r : Result A (At K)) (fault other : At K) → r ≡ Err fault → r ≡ Err other → fault ≡ other
one_fault_of r fault other is also = cc

fired_one_line : (file : List ℕ) (p : Planned) (vectors : List Row) (lines : List Line) → HasOneLine (fired_stage file p vectors lines)
fired_one_line file p vectors lines line other (fault, is, spelt) (fault', also, spelt') =
    let same : fault ≡ fault' = one_fault_of (replay_of p.graph (length vectors) lines) fault fault' is also in
    inl (spelt ∙ (ap (λ (f : At ReplayKind). numbered_line file f.line (log_text p.graph f.kind)) same ∙ sym spelt'))

log_one_line : (held : List ℕ → Held) (log : List ℕ) (p : Planned) (vectors : List Row) → held log ≢ untold → HasOneLine (log_stage held log p vectors)
log_one_line held log p vectors told =
    then_one_line (lines_stage held which.Log log) (fired_stage log p vectors) (lines_exclusive held which.Log log told) (lines_one_line held which.Log log told)
    (λ lines is. fired_one_line log p vectors lines)

replayed_one_line : (held : List ℕ → Held) (log : List ℕ) (transparent : Bool) (p : Planned) (vectors : List Row) → held log ≢ untold → HasOneLine (replayed_stage held log transparent p vectors)
replayed_one_line held log transparent p vectors told =
    last_one_line (log_stage held log p vectors) (λ (events : List ℕ). giving (IsReplayText transparent p vectors events)) (log_one_line held log p vectors told) (λ events line none. none)

-- an expansion that passes a limit
same_limit : ArcsFit → (s : Split) (one other : Limit) → HasTooMany s one → HasTooMany s other → one ≡ other
same_limit fit s limit.Signals limit.Signals is also = refl
same_limit fit s limit.Signals limit.Arcs is also = absurd (fit s also)
same_limit fit s limit.Signals limit.Bytes is also = absurd also
same_limit fit s limit.Signals limit.TableInputs is also = absurd also
same_limit fit s limit.Signals limit.Copies is also = absurd also
same_limit fit s limit.Signals limit.Nets is also = absurd also
same_limit fit s limit.Signals limit.Tables is also = absurd also
same_limit fit s limit.Signals limit.Registers is also = absurd also
same_limit fit s limit.Signals limit.Clusters is also = absurd also
same_limit fit s limit.Signals limit.Vectors is also = absurd also
same_limit fit s limit.Arcs other is also = absurd (fit s is)
same_limit fit s limit.Bytes other is also = absurd is
same_limit fit s limit.TableInputs other is also = absurd is
same_limit fit s limit.Copies other is also = absurd is
same_limit fit s limit.Nets other is also = absurd is
same_limit fit s limit.Tables other is also = absurd is
same_limit fit s limit.Registers other is also = absurd is
same_limit fit s limit.Clusters other is also = absurd is
same_limit fit s limit.Vectors other is also = absurd is

wanted_one_line : ArcsFit → (file : List ℕ) (shake : Bool) (s : Split) → HasOneLine (wanted_stage file shake s)
wanted_one_line fit file false s line other is also = absurd is
wanted_one_line fit file true s line other (one, is, spelt) (two, also, spelt') =
    inl (spelt ∙ (ap (λ (l : Limit). file_line file (too_many_text l)) (same_limit fit s one two is also) ∙ sym spelt'))

controller_one_line : ArcsFit → (file : List ℕ) (shake : Bool) (s : Split) → HasOneLine (controller_stage file shake s)
controller_one_line fit file shake s = last_one_line (wanted_stage file shake s) (drawn_stage s) (wanted_one_line fit file shake s) (λ g line none. none)

-- the delays of a file
timed_one_line : (held : List ℕ → Held) (file : List ℕ) (g : Graph) → held file ≢ untold → HasOneLine (timed_stage held file g)
timed_one_line held file g told =
    last_one_line (delays_stage held file g) (λ (delays : List ℕ). giving (IsPeriodText g delays))
    (then_one_line (lines_stage held which.Delays file) (given_stage file g) (lines_exclusive held which.Delays file told) (lines_one_line held which.Delays file told)
    (λ lines is. result_one_line (read_or_line file delay_text (delays_of g lines))))
    (λ delays line none. none)

-- the times of the delays of a file
scheduled_one_line : (held : List ℕ → Held) (file : List ℕ) (turns : ℕ) (g : Graph) → held file ≢ untold → HasOneLine (scheduled_stage held file turns g)
scheduled_one_line held file turns g told =
    last_one_line (delays_stage held file g) (λ (delays : List ℕ). giving (IsTimesText g delays turns))
    (then_one_line (lines_stage held which.Delays file) (given_stage file g) (lines_exclusive held which.Delays file told) (lines_one_line held which.Delays file told)
    (λ lines is. result_one_line (read_or_line file delay_text (delays_of g lines))))
    (λ delays line none. none)

-- a graph without a netlist
module _ (file : List ℕ) (g : Graph) where
  -- a cycle of arcs without tokens is a cycle
  free_closes : (events : List ℕ) → IsCycle (HasFreeArc g) events → HasCycle g
  free_closes events cycle =
      cycle_closes g events (cycle_by (HasFreeArc g) (Leads g) (λ u v (k, arc, inside, is, (source, target, free)). (k, arc, inside, is, (source, target))) events cycle)

  free_names : (line : List ℕ) → IsFreeLine file g line → (words : List (List ℕ)) × (line ≡ file_line file (codes "token-free cycle:" ++ with_blanks words))
  free_names line (events, text, cycle, shown, spelt) =
      (map (text_of_event g) events, spelt ∙ ap (file_line file) (one_some (accept_text g (accept.TokenFreeCycle events)) text (codes "token-free cycle:" ++ with_blanks (map (text_of_event g) events)) shown refl))

  cyclic_one_line : HasOneLine (cyclic_stage file g)
  cyclic_one_line line other (inl is) (inl also) = inr (record {
    file = file;
    text = codes "token-free cycle:";
    of_cycle = inr refl;
    first = free_names line is;
    second = free_names other also;
  })
  cyclic_one_line line other (inl (events, text, cycle, shown, spelt)) (inr (none, also)) = absurd (none (free_closes events cycle))
  cyclic_one_line line other (inr (none, is)) (inl (events, text, cycle, shown, spelt)) = absurd (none (free_closes events cycle))
  cyclic_one_line line other (inr (none, is)) (inr (also_none, also)) = inl (is ∙ sym also)

bare_one_line : (held : List ℕ → Held) (file : List ℕ) → held file ≢ untold → HasOneLine (bare_graph_stage held file)
bare_one_line held file told =
    then_one_line (lines_stage held which.Graph file) (bare_stage file) (lines_exclusive held which.Graph file told) (lines_one_line held which.Graph file told)
    (λ lines are. then_one_line (result_stage (read_or_line file astg_text (graph_of_lines lines))) (cyclic_stage file) (result_exclusive (read_or_line file astg_text (graph_of_lines lines)))
    (result_one_line (read_or_line file astg_text (graph_of_lines lines))) (λ g is. cyclic_one_line file g))

-- so it is for each job
module _ (faults : FaultsAreRefused) (one_net : OneFault) (one : OneGroupedClustering) (one_accept : OneAcceptFault) (fit : ArcsFit) (held : List ℕ → Held) where
  behind_net : (file : List ℕ) → held file ≢ untold → (next : Circuit → Stage (List ℕ)) → ((c : Circuit) → HasOneLine (next c)) → HasOneLine (then_stage (netlist_stage held file) next)
  behind_net file told next each =
      then_one_line (netlist_stage held file) next (netlist_exclusive faults held file told) (netlist_one_line one_net held file told) (λ c is. each c)

  behind_plan : (file : List ℕ) (graph groups : Option (List ℕ)) (mode : Mode) (slack : ℕ) → IsToldIn held graph → IsToldIn held groups → (c : Circuit) (next : Planned → Stage (List ℕ)) → ((p : Planned) → HasOneLine (next p))
      → HasOneLine (then_stage (planned_stage held file graph groups mode slack c) next)
  behind_plan file graph groups mode slack told grouped c next each =
      then_one_line (planned_stage held file graph groups mode slack c) next (planned_exclusive one held file graph groups mode slack (told_file held graph told) (told_file held groups grouped) c)
      (planned_one_line one_accept one held file graph groups mode slack (told_file held graph told) (told_file held groups grouped) c) (λ p is. each p)

  run_one_line : (vec : List ℕ) (log : Bool) (jobs : ℕ) (stop : Option ℕ) → held vec ≢ untold → (c : Circuit) (p : Planned) → HasOneLine (planned_run_stage held vec log jobs stop c p)
  run_one_line vec log jobs None told c p =
      last_one_line (streamed_stage held vec (most_vectors log) c) (traced_stage log c p) (streamed_one_line held vec (most_vectors log) c told) (λ rows line none. none)
  run_one_line vec log jobs (Some stop) told c p =
      last_one_line (vectors_stage held vec c) (stopped_stage log jobs stop c p) (vectors_one_line held vec c told) (λ rows line none. none)

  job_one_line : (job : Job) → AreTold held job → HasOneLine (stages_of held job)
  job_one_line (Run job) (told_net, told_vec, told, grouped) =
      behind_net job.net told_net (run_stage held job) (λ c. behind_plan job.net job.graph job.groups job.clusters job.slack told grouped c
      (planned_run_stage held job.vec job.log job.jobs job.stop c) (λ p. run_one_line job.vec job.log job.jobs job.stop told_vec c p))
  job_one_line (Clock job) (told_net, told_vec) =
      behind_net job.net told_net (clock_stage held job.vec) (λ c.
      last_one_line (streamed_stage held job.vec (most_vectors false) c) (trace_stage c) (streamed_one_line held job.vec (most_vectors false) c told_vec) (λ rows line none. none))
  job_one_line (Check file) told = behind_net file told report_stage (λ c. never_has (report_stage c) (λ line none. none))
  job_one_line (GraphCommand job) (told, grouped) =
      behind_net job.net told (graph_stage held job) (λ c. then_one_line (split_stage held job.net job.groups job.clusters c) (λ (s : Split). controller_stage job.net job.shake (slackened s job.slack)) (split_exclusive one held job.net job.groups job.clusters (told_file held job.groups grouped) c)
      (split_one_line one held job.net job.groups job.clusters (told_file held job.groups grouped) c) (λ s is. controller_one_line fit job.net job.shake (slackened s job.slack)))
  job_one_line (Replay job) (told_net, told_vec, told_log, told, grouped) =
      behind_net job.net told_net (replay_stage held job) (λ c. behind_plan job.net job.graph job.groups job.clusters job.slack told grouped c
      (λ (p : Planned). then_stage (vectors_stage held job.vec c) (λ (vectors : Rows). replayed_stage held job.log job.transparent p vectors.rows))
      (λ p. then_one_line (vectors_stage held job.vec c) (λ (vectors : Rows). replayed_stage held job.log job.transparent p vectors.rows) (vectors_exclusive held job.vec c told_vec)
      (vectors_one_line held job.vec c told_vec) (λ vectors is. replayed_one_line held job.log job.transparent p vectors.rows told_log)))
  job_one_line (Accept job) (told_net, told, grouped) =
      behind_net job.net told_net (accept_stage held job) (λ c. behind_plan job.net (Some job.graph) job.groups job.clusters job.slack told grouped c ranks_stage
      (λ p. never_has (ranks_stage p) (λ line none. none)))
  job_one_line (Demo job) told = never_has (stages_of held (Demo job)) (λ line none. none)
  job_one_line (Period job) (told_net, told_delays, told, grouped) =
      behind_net job.net told_net (period_stage held job) (λ c. behind_plan job.net job.graph job.groups job.clusters job.slack told grouped c
      (λ (p : Planned). timed_stage held job.delays p.graph) (λ p. timed_one_line held job.delays p.graph told_delays))
  job_one_line (Clusters job) (told_net, grouped) =
      behind_net job.net told_net (listing_stage held job) (λ c.
      last_one_line (clustered_stage held job.net job.groups job.clusters c) (listed_stage c) (clustered_one_line held job.net job.groups job.clusters (told_file held job.groups grouped) c) (λ clusters line none. none))
  job_one_line (Rate job) (told_graph, told_delays) =
      then_one_line (bare_graph_stage held job.graph) (timed_stage held job.delays) (bare_exclusive held job.graph told_graph) (bare_one_line held job.graph told_graph)
      (λ g is. timed_one_line held job.delays g told_delays)
  job_one_line (Times job) (told_net, told_delays, told, grouped) =
      behind_net job.net told_net (times_stage held job) (λ c. behind_plan job.net job.graph job.groups job.clusters job.slack told grouped c
      (λ (p : Planned). scheduled_stage held job.delays job.turns p.graph) (λ p. scheduled_one_line held job.delays job.turns p.graph told_delays))

-- a job is refused by one line, but for which cycle it names
pub jobs_have_one_line : FaultsAreRefused → OneFault → OneGroupedClustering → OneAcceptFault → ArcsFit → JobsHaveOneLine
jobs_have_one_line faults one_net one one_accept fit held job told line other is also = job_one_line faults one_net one one_accept fit held job told line other is also
