-- The run of a plan is sound, and something in it can always fire.
use Rattle.std.proofs.Common.{◌≡◌, ℕ, zero, suc, ◌*◌, ◌<◌, ◌≤◌, List, [], length, get_or, All, arith, ap, sym, ◌∙◌, subst, inl, inr, length-append}
use Rattle.std.proofs.lemmas.List.{length-map, length-replicate}
use Rattle.std.proofs.lemmas.Bool.{cases_eq, cases_lt}
use Rattle.std.proofs.Math.Nat.{mul-le-mul_right, mul-le-mul_left}
use Rattle.ds_base.specs.Values.{Row}
use Rattle.ds_base.specs.declared.value.Value.TheVariants.{Zero}
use Rattle.ds_marked.specs.Graph.{Graph, Agrees}
use Rattle.ds_marked.specs.declared.marked.Arc.{Arc}
use Rattle.ds_marked.specs.declared.marked.Event.{Event}
use Rattle.ds_cover.specs.Cover.{value_at}
use Rattle.ds_design.specs.Circuit.{columns, data_nets, register_nets}
use Rattle.ds_latch.specs.Node.{Split, number_of, nodes, members, nets_of, opening as node_opening, closing as node_closing}
use Rattle.ds_latch.specs.declared.node.Node.{Node}
use Rattle.ds_latch.specs.declared.node.Node.TheVariants.{In, Out, Master, Slave}
use Rattle.ds_latch.specs.Order.{IsDataEdge, IsRequired, opens_first, after_producer, before_reuse, open_tokens, close_tokens}
use Rattle.ds_latch.specs.Plan.{IsController, IsPlan, Planned, split_events}
use Rattle.ds_latch.specs.Numbered.{numbered}
use Rattle.ds_latch.proofs.OrderTokens.{accepted_controls, edge_differs, edge_tokens, number_below}
use Rattle.ds_latch.proofs.EventNodes.{node_at}
use Rattle.ds_latch.proofs.OrdersRise.{edge_nodes, events_long}
use Rattle.ds_rule.specs.Run.{Run, graph, events, node_of, opening, closing}
use Rattle.ds_rule.specs.Words.{width, size, node_values as run_values}
use Rattle.ds_rule.specs.Sound.{HasOrder, HasOrders, IsSound, edge_at}
use Rattle.ds_rule.specs.Progress.{IsRunAccepted}
use Rattle.ds_rule.specs.Laws.{IsGraphOfRun}
use Rattle.ds_rule.specs.declared.table_run.DataEdge.{DataEdge}
use Rattle.ds_rule.proofs.EventLaws.{events-is, opening-is, closing-is}
use Rattle.ds_rule.proofs.GraphLaws.{live_as, events_as, node_there}
use Rattle.ds_run.specs.RunOfPlan.{IsRunOf, Joins}
use Rattle.ds_run.specs.Laws.{IsRunWithin, RunsAreAccepted, RunsAreSound, RunsHaveGraphs}
use Rattle.ds_run.proofs.ItemAccess.{all_at}
use Rattle.ds_run.proofs.Sizes.{read_few, width_few, size_few}

few_tokens : (n : Node) → open_tokens n ≤ 1
few_tokens In = omega arith
few_tokens Out = omega arith
few_tokens (Master i) = omega arith
few_tokens (Slave i) = omega arith

-- a graph of a plan has two events of each node, and its extra ones
pub room : (s : Split) (g : Graph) → IsPlan s g → 2 * nodes s ≤ length g.events
room s g plan = omega (
  arith,
  ap (λ (es : List Event). length es) plan.events,
  length-append (split_events s) plan.extra,
  events_long s,
)

module _ (p : Planned) (vectors : List Row) (run : Run) (is : IsRunOf p vectors run)
    (plan : IsPlan p.split p.graph) where
  controls : IsController p.split p.graph
  controls = accepted_controls p.split p.graph plan

  among : run.design_nodes ≤ run.nodes
  among = omega (arith, room p.split p.graph plan, is.latches_are, is.nodes_are)

  events_are : length p.graph.events ≡ events run
  events_are = sym is.nodes_are ∙ sym (events-is run)

  -- a required order is an order of the run
  order : (u v tokens : ℕ) → IsRequired p.split u v tokens → HasOrder run u v tokens
  order u v tokens required counts agrees =
      controls.meets counts (subst (All (Agrees counts)) is.arcs_are agrees) u v tokens required

  opening-node : (l : ℕ) (n : Node) → l ≡ number_of n → opening l ≡ node_opening n
  opening-node l n e = opening-is l ∙ omega arith

  closing-node : (l : ℕ) (n : Node) → l ≡ number_of n → closing l ≡ node_closing n
  closing-node l n e = closing-is l ∙ omega arith

  there : (e : DataEdge) (a c : Node) → IsDataEdge p.split a c → Joins a c e → HasOrders run e
  there e a c edge joins =
      let (is_a, is_c) = edge_nodes p.split a c edge in
      record {
        tokens_few = omega (arith, joins.tokens, few_tokens a);
        from = omega (arith, joins.from, number_below p.split a is_a, is.latches_are);
        into = omega (arith, joins.into, number_below p.split c is_c, is.latches_are);
        apart = λ same. edge_differs p.split a c edge (sym joins.from ∙ (same ∙ joins.into));
        there = λ counts agrees. omega (
          arith,
          order (node_opening a) (node_opening c) (open_tokens a) (after_producer a c edge)
              counts agrees,
          ap counts (opening-node e.producer a joins.from),
          ap counts (opening-node e.consumer c joins.into),
          joins.tokens,
        );
        back = λ counts agrees. omega (
          arith,
          order (node_closing c) (node_opening a) (close_tokens p.split a)
              (before_reuse a c edge) counts agrees,
          ap counts (opening-node e.producer a joins.from),
          ap counts (closing-node e.consumer c joins.into),
          joins.tokens,
          few_tokens a,
          edge_tokens p.split a,
          is.slack_is,
        );
      }

  all_there : All (HasOrders run) run.edges
  all_there k d inside =
      let (a, c, edge, joins) = is.edges_are.each k d inside in
      there (get_or run.edges k d) a c edge joins

  closes : (l : ℕ) → l < run.design_nodes → HasOrder run (opening l) (closing l) 0
  closes l low counts agrees =
      let (n, is_node, at) = node_at p.split l (omega (arith, is.latches_are)) in
      omega (
        arith,
        order (node_opening n) (node_closing n) 0 (opens_first n is_node) counts agrees,
        ap counts (opening-node l n (sym at)),
        ap counts (closing-node l n (sym at)),
      )

  pub run_graph : IsGraphOfRun p.graph run
  run_graph = record { events_are = events_are; arcs_are = sym is.arcs_are; among = among }

  pub run_accepted : IsRunAccepted run
  run_accepted = record {
    closes = closes;
    live = live_as (graph run) p.graph (sym (events_as p.graph run run_graph)) is.arcs_are plan.live;
  }

  named : All (λ a. (node_of run a.source < run.nodes) × (node_of run a.target < run.nodes)) run.arcs
  named k d inside = let ends = run_accepted.live.ends k d inside in
      (node_there run _ among ends.0, node_there run _ among ends.1)

  by_consumer : (j k : ℕ) → j ≤ k → k < length run.edges
      → (edge_at run j).consumer ≤ (edge_at run k).consumer
  by_consumer j k low inside = elim (cases_eq j k) [
    | inl e ↦ omega (arith, ap (λ (n : ℕ). (edge_at run n).consumer) e)
    | inr ne ↦ is.edges_are.by_consumer j k _ (omega arith) inside
  ]

  module _ (within : IsRunWithin p vectors run) where
    -- each value of a node has a value a net
    length-numbered : (state nets : ℕ → Row) (n : Node) (k : ℕ) → k ≤ length vectors
        → length (numbered p.split vectors state nets n k) ≡ length (nets_of p.split n)
    length-numbered state nets In zero few =
        length-replicate (length (columns p.split.circuit)) Zero
    length-numbered state nets In (suc k) few = within.one_width k [] (omega arith)
    length-numbered state nets Out zero few =
        length-replicate (length p.split.circuit.outputs) Zero
    length-numbered state nets Out (suc k) few =
        length-map p.split.circuit.outputs (value_at (nets k))
    length-numbered state nets (Master i) zero few =
        length-replicate (length (nets_of p.split (Master i))) Zero
    length-numbered state nets (Master i) (suc k) few =
        length-map (members p.split i) (value_at (state (suc k)))
        ∙ sym (length-map (members p.split i) (λ r. get_or (data_nets p.split.circuit) r 0))
    length-numbered state nets (Slave i) k few = length-map (members p.split i) (value_at (state k))
        ∙ sym (length-map (members p.split i) (λ r. get_or (register_nets p.split.circuit) r 0))

    same_length : (l k : ℕ) → l < run.nodes → k ≤ run.limit
        → length (run_values run l k) ≡ get_or run.lengths l 0
    same_length l k below low = elim (cases_lt l (nodes p.split)) [
      | inl inside ↦ (let (n, is_node, at) = node_at p.split l inside in
          let v = is.values_are in
          subst (λ (m : ℕ). length (run_values run m k) ≡ get_or run.lengths m 0) at
          (ap (λ (r : Row). length r) (v.of_node n is_node k (omega (arith, is.limit_is)))
          ∙ (length-numbered v.state v.nets n k (omega (arith, is.limit_is))
          ∙ sym (is.lengths_are.of_node n is_node))))
      | inr past ↦ ap (λ (r : Row). length r)
          (is.values_are.of_extra l k past below (omega (arith, is.limit_is)))
          ∙ sym (is.lengths_are.of_extra l past)
    ]

    sized : size run < 9223372036854775808
    sized = omega (
      arith,
      size_few run (nodes p.split) is.lengths_are.few is.lengths_are.of_extra
          (omega (arith, within.low, is.slack_is)),
      within.few_events,
      within.few_edges,
    )

    pub run_sound : IsSound run
    run_sound = record {
      few = within.few_events;
      few_arcs = omega (arith, within.few_arcs, ap (λ (arcs : List Arc). length arcs) is.arcs_are);
      short = omega (arith, within.few_vectors, is.limit_is);
      near = omega (arith, within.low, is.slack_is);
      among = among;
      narrow = omega (
        arith,
        within.few_events,
        mul-le-mul_left {m = 2 * run.limit} {n = 131072} run.nodes
            (omega (arith, within.few_vectors, is.limit_is)),
      );
      sized = sized;
      reads = λ l. omega (
        arith,
        read_few run is.lengths_are.few l (length run.edges),
        within.few_edges,
      );
      stores = λ l. omega (
        arith,
        width_few run is.lengths_are.few l,
        mul-le-mul_right {m = run.limit} {n = 65536} (width run l)
            (omega (arith, within.few_vectors, is.limit_is)),
      );
      named = named;
      rows_of_all = is.lengths_are.one_each;
      same_length = same_length;
      by_consumer = by_consumer;
      orders = all_at (HasOrders run) run.edges all_there;
    }

pub runs_are_sound_lem : RunsAreSound
runs_are_sound_lem p vectors run is plan within = run_sound p vectors run is plan within

pub runs_are_accepted_lem : RunsAreAccepted
runs_are_accepted_lem p vectors run is plan = run_accepted p vectors run is plan

pub runs_have_graphs_lem : RunsHaveGraphs
runs_have_graphs_lem p vectors run is plan = run_graph p vectors run is plan
