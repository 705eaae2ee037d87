-- What `graph` prints, `accept` takes.
use Rattle.std.proofs.Common.{◌≡◌, ◌≢◌, ◌∙◌, ℕ, ◌+◌, ◌*◌, ◌<◌, ◌≤◌, ◌^◌, Bool, true, false, List, length, get_or, Some, Ok, inl, inr, refl, arith, ap, sym, subst}
use Rattle.std.specs.Prelude.{All}
use Rattle.std.proofs.lemmas.List.Sorted.{All-permutation, length_permutation}
use Rattle.ds_base.specs.Limit.{most_of}
use Rattle.ds_base.specs.declared.number.Limit.TheVariants.{Bytes}
use Rattle.ds_base.proofs.ListLemmas.{get_or-self}
use Rattle.ds_outside.specs.Held.{Held, untold, bytes}
use Rattle.ds_lines.specs.Line.{lines_of}
use Rattle.ds_marked.specs.Graph.{Graph, IsKept}
use Rattle.ds_marked.specs.declared.marked.Arc.{Arc}
use Rattle.ds_design.specs.Accepted.{IsAccepted}
use Rattle.ds_design.specs.Circuit.{Circuit}
use Rattle.ds_latch.specs.Node.{Split, nodes, slackened}
use Rattle.ds_latch.specs.declared.node.Node.{Node}
use Rattle.ds_latch.specs.declared.node.Node.TheVariants.{In, Out, Master, Slave}
use Rattle.ds_latch.specs.Order.{IsRequired, opens_first, closes_before_next, after_producer, before_reuse, open_tokens, close_tokens}
use Rattle.ds_latch.specs.Plan.{IsPlan, IsSplit}
use Rattle.ds_latch.proofs.OrderTokens.{edge_tokens}
use Rattle.ds_latch.proofs.OrdersRise.{orders_are_accepted}
use Rattle.ds_control.specs.Orders.{tokens_after}
use Rattle.ds_control.proofs.Required.{named, tokens_is}
use Rattle.ds_graph_laws.proofs.Slack.{few_at_slack, split_at_slack}
use Rattle.ds_split.specs.Laws.{OneGroupedClustering}
use Rattle.ds_split.specs.Split.{HasTooManyOrders}
use Rattle.ds_shake.specs.Expansion.{expanded_arcs, freeing_tokens, handshake_arcs}
use Rattle.ds_shake.specs.declared.handshake.Handshake.{Handshake}
use Rattle.ds_shake.proofs.ExpansionIsPlan.{all_arcs, arcs_long, expanded_long, expansion_is_plan}
use Rattle.ds_shake.proofs.FlatMapLemmas.{all_each}
use Rattle.ds_netlist.specs.Laws.{FaultsAreRefused}
use Rattle.ds_astg.specs.Read.{graph_of_lines}
use Rattle.ds_astg.specs.Text.{graph_text}
use Rattle.ds_cmd.specs.Allowed.{AreAllowed}
use Rattle.ds_cmd.specs.declared.graph.GraphJob.{GraphJob}
use Rattle.ds_cmd.specs.declared.job.Job.TheVariants.{Accept, Graph as GraphCommand}
use Rattle.ds_stage.specs.GraphStage.{IsExpansionOf, IsGraphOf, wanted_stage}
use Rattle.ds_stage.specs.PlanStage.{named_stage}
use Rattle.ds_stage.specs.Stages.{OfBytes, text_stage}
use Rattle.ds_stage.proofs.ExclusiveStages.{netlist_exclusive}
use Rattle.ds_stage.proofs.PlanAccepted.{in_clusters_split}
use Rattle.ds_stage.proofs.PlanExclusive.{planned_exclusive}
use Rattle.ds_app.specs.Job.{stages_of}
use Rattle.ds_app.specs.JobStages.{accept_stage}
use Rattle.ds_app.specs.Status.{AreTold, IsToldIn}
use Rattle.ds_app.proofs.ExclusiveJobs.{told_file}
use Rattle.ds_laws.specs.PrintedGraphs.{IsReadBack, accept_after}
use Rattle.ds_laws.proofs.FewArcs.{few_arcs}
use Rattle.ds_laws.proofs.ModelName.{IsPrintable, netlist_named}
use Rattle.ds_laws.proofs.PrintedPlans.{own_plan}
use Rattle.ds_laws.proofs.GraphSignals.{edges_read, nodes_read}

-- the tokens of a required order are few
order_tokens : (s : Split) (u v t : ℕ) → IsRequired s u v t → t ≤ s.slack + 1
order_tokens s _ _ _ (opens_first n is) = omega arith
order_tokens s _ _ _ (closes_before_next n is) = omega arith
order_tokens s _ _ _ (after_producer p c edge) = let both : open_tokens p + close_tokens s p ≡ s.slack + 1 = edge_tokens s p in omega (arith, both)
order_tokens s _ _ _ (before_reuse p c edge) = let both : open_tokens p + close_tokens s p ≡ s.slack + 1 = edge_tokens s p in omega (arith, both)

-- a consumer opens with one token at most
open_low : (p : Node) → open_tokens p ≤ 1
open_low In = omega arith
open_low Out = omega arith
open_low (Master i) = omega arith
open_low (Slave i) = omega arith

-- so it is by the number of its producer
after_low : (n : ℕ) → tokens_after n ≤ 1
after_low n =
    let (node, is) = named n in
    let same : tokens_after n ≡ open_tokens node = ap tokens_after (sym is) ∙ tokens_is node in
    let low : open_tokens node ≤ 1 = open_low node in
    omega (arith, same, low)

-- few tokens on an arc
abbrev HasFew : Arc → Type 0
HasFew arc = arc.tokens < 256

module _ (s : Split) (g : Graph) (split : IsSplit s) (low : s.slack ≤ 15) (few : length s.clusters ≤ 4096)
    (name : List ℕ) (printable : IsPrintable name) where
  -- the graph of the required orders is read
  graph_tokens : IsGraphOf s g → All HasFew g.arcs
  graph_tokens is k d inside =
      let a : Arc = get_or g.arcs k d in
      let required : IsRequired s a.source a.target a.tokens = (is.orders a.source a.target a.tokens).1 (k, a, inside, get_or-self g.arcs k d inside, (refl, refl, refl)) in
      let most : a.tokens ≤ s.slack + 1 = order_tokens s a.source a.target a.tokens required in
      omega (arith, most, low)

  -- so its text is read
  graph_read : ¬ HasTooManyOrders s → IsGraphOf s g → graph_of_lines (lines_of (graph_text name (nodes s) g)) ≡ Ok g
  graph_read fits is =
      nodes_read s g is.kept (few_arcs s g is.orders is.simple fits) (graph_tokens is) few is.events name printable (nodes s)

  -- so is its expansion
  module _ (is : IsExpansionOf s g) where
    abbrev all : List Handshake
    all = is.expansion.handshakes

    -- few tokens stand on the arcs of a handshake
    handshake_tokens : (h : Handshake) → All HasFew (handshake_arcs (nodes s) s.slack h)
    handshake_tokens h =
        let after : tokens_after h.producer ≤ 1 = after_low h.producer in
        let reads : tokens_after h.producer < 256 = omega (arith, after) in
        let frees : freeing_tokens s.slack h < 256 = omega (arith, low) in
        let none : 0 < 256 = omega arith in
        let one : 1 < 256 = omega arith in
        all_each HasFew (handshake_arcs (nodes s) s.slack h) (none, (reads, (none, (frees, (none, (none, (frees, (one, tt))))))))

    -- and on all of its arcs
    expansion_tokens : All HasFew g.arcs
    expansion_tokens =
        All-permutation HasFew (expanded_arcs s all) g.arcs is.expansion.arcs
        (all_arcs s all is.expansion.are HasFew (λ n inside. (omega arith, omega arith)) (λ h at. handshake_tokens h))

    -- it has no more arcs than a graph may have
    expansion_arcs : length g.arcs ≤ 1048576
    expansion_arcs =
        let same : length g.arcs ≡ length (expanded_arcs s all) = length_permutation (expanded_arcs s all) g.arcs is.expansion.arcs in
        let long : length (expanded_arcs s all) ≡ 2 * nodes s + 8 * length all = arcs_long s all is.expansion.are in
        let fit : nodes s + 2 * length all ≤ 65536 = is.expansion.few in
        omega (arith, same, long, fit)

    -- and no more events than so many signals have
    expansion_events : length g.events ≤ 131072
    expansion_events =
        let same : length g.events ≡ 2 * nodes s + 4 * length all = ap length is.expansion.events ∙ expanded_long s all is.expansion.are in
        let fit : nodes s + 2 * length all ≤ 65536 = is.expansion.few in
        omega (arith, same, fit)

    -- its handshakes have small numbers
    numbers_low : All (λ h. h.number < 2 ^ 64) all
    numbers_low k d inside =
        let number : (get_or all k d).number ≡ k = is.expansion.are.numbered k inside d in
        let fit : nodes s + 2 * length all ≤ 65536 = is.expansion.few in
        omega (arith, number, fit, inside)

    -- so its text is read
    expansion_read : graph_of_lines (lines_of (graph_text name (nodes s) g)) ≡ Ok g
    expansion_read =
        edges_read s all g is.kept expansion_arcs expansion_tokens few numbers_low is.expansion.events expansion_events name printable (nodes s)

-- the graph that is wanted is read, and is a plan's
wanted_read : (file : List ℕ) (shake : Bool) (s : Split) (g : Graph) → IsSplit s → s.slack ≤ 15 → length s.clusters ≤ 4096 → ¬ HasTooManyOrders s
    → (name : List ℕ) → IsPrintable name → (wanted_stage file shake s).means g → graph_of_lines (lines_of (graph_text name (nodes s) g)) ≡ Ok g
wanted_read file false s g split low few fits name printable is = graph_read s g split low few name printable fits is
wanted_read file true s g split low few fits name printable is = expansion_read s g split low few name printable is

-- it is kept, and a plan of its split design
wanted_plan : (file : List ℕ) (shake : Bool) (s : Split) (g : Graph) → IsSplit s → (wanted_stage file shake s).means g → IsKept g × IsPlan s g
wanted_plan file false s g split is = (is.kept, orders_are_accepted s g split is.events is.orders)
wanted_plan file true s g split is = (is.kept, expansion_is_plan s g split is.expansion)

-- a text of bytes that are told
told_text : (h : Held) (file text : List ℕ) → h ≡ bytes text → length text ≤ most_of Bytes
    → OfBytes h (λ held. (text_stage file held).means (lines_of text))
told_text h file text is short = subst (λ (g : Held). OfBytes g (λ held. (text_stage file held).means (lines_of text))) (sym is) (short, refl)

-- so the file of the graph gives the plan with the graph that was printed
named_means : (held : List ℕ → Held) (file text : List ℕ) (s : Split) (g : Graph) → held file ≡ bytes text → length text ≤ most_of Bytes
    → graph_of_lines (lines_of text) ≡ Ok g → IsKept g → IsPlan s g → (named_stage held file s).means (record { split = s; graph = g })
named_means held file text s g is short read kept plan =
    (lines_of text, told_text (held file) file text is short, (g, rw read refl, own_plan s g kept plan))

-- what is printed is read back
pub printed_graphs_are_read : (held : List ℕ → Held) (job : GraphJob) (graph printed : List ℕ)
    → AreAllowed (GraphCommand job) → AreTold held (GraphCommand job) → (stages_of held (GraphCommand job)).means printed
    → held graph ≡ bytes printed → length printed ≤ most_of Bytes → IsReadBack held job graph printed
printed_graphs_are_read held job graph printed (low, shaken) (told, grouped) (c, netlist, (s, (gs, are_groups, (is, fits)), (g, wanted, drawn))) is_graph short =
    let (flat, is_flat, (same, accepted)) = netlist in
    let t : Split = slackened s job.slack in
    let split : IsSplit s = in_clusters_split job.clusters gs c s (subst (λ (d : Circuit). IsAccepted d) (sym same) accepted) is in
    let circuit : s.circuit ≡ c = ap (λ (u : Split). u.circuit) is.is in
    let clusters : length s.clusters ≡ length is.clusters = ap (λ (u : Split). length u.clusters) is.is in
    let few : length is.clusters ≤ 4096 = is.few in
    let printable : IsPrintable s.circuit.name = subst (λ (d : Circuit). IsPrintable d.name) (sym circuit) (netlist_named held job.net c told netlist) in
    let read : graph_of_lines (lines_of (graph_text t.circuit.name (nodes t) g)) ≡ Ok g =
    wanted_read job.net job.shake t g (split_at_slack s job.slack split) low (omega (arith, clusters, few)) (few_at_slack s job.slack fits) s.circuit.name printable wanted in
    let (kept, plan) = wanted_plan job.net job.shake t g (split_at_slack s job.slack split) wanted in
    record {
      circuit = c;
      split = s;
      printed_graph = g;
      is_circuit = netlist;
      is_split = (gs, are_groups, (is, fits));
      is_graph = wanted;
      is_text = drawn;
      is_plan = (
        s,
        (gs, are_groups, (is, fits)),
        named_means held graph printed t g is_graph short (ap (λ (u : List ℕ). graph_of_lines (lines_of u)) drawn ∙ read) kept plan,
      );
    }

-- and `accept` does not refuse it
module _ (faults : FaultsAreRefused) (one : OneGroupedClustering) (held : List ℕ → Held) (job : GraphJob) (graph printed : List ℕ)
    (told : held job.net ≢ untold) (grouped : IsToldIn held job.groups) (named_told : held graph ≢ untold) (back : IsReadBack held job graph printed) (line : List ℕ) where
  plan_taken : ¬ (accept_stage held (accept_after job graph) back.circuit).refused line
  plan_taken (inl bad) =
      (planned_exclusive one held job.net (Some graph) job.groups job.clusters job.slack (told_file held (Some graph) named_told) (told_file held job.groups grouped) back.circuit).not_refused
      (record { split = slackened back.split job.slack; graph = back.printed_graph }) line back.is_plan bad
  plan_taken (inr (p, planned, none)) = none

  -- nor do the stages before the plan
  pub all_taken : ¬ (stages_of held (Accept (accept_after job graph))).refused line
  all_taken (inl bad) = (netlist_exclusive faults held job.net told).not_refused back.circuit line back.is_circuit bad
  all_taken (inr (c, netlist, bad)) =
      let same : c ≡ back.circuit = (netlist_exclusive faults held job.net told).one c back.circuit netlist back.is_circuit in
      plan_taken (subst (λ (d : Circuit). (accept_stage held (accept_after job graph) d).refused line) same bad)

-- bytes are told
told_bytes : (h : Held) (text : List ℕ) → h ≡ bytes text → h ≢ untold
told_bytes h text is not_told = cc

-- what is printed is taken
pub printed_graphs_are_taken : FaultsAreRefused → OneGroupedClustering → (held : List ℕ → Held) (job : GraphJob) (graph printed : List ℕ)
    → AreAllowed (GraphCommand job) → AreTold held (GraphCommand job) → (stages_of held (GraphCommand job)).means printed
    → held graph ≡ bytes printed → length printed ≤ most_of Bytes
    → (line : List ℕ) → ¬ (stages_of held (Accept (accept_after job graph))).refused line
printed_graphs_are_taken faults one held job graph printed allowed told means is short line =
    all_taken faults one held job graph printed told.0 told.1 (told_bytes (held graph) printed is) (printed_graphs_are_read held job graph printed allowed told means is short) line
