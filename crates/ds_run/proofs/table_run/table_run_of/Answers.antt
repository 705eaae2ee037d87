use Rattle.std.proofs.Common.{◌≡◌, ℕ, ◌+◌, ◌-◌, ◌*◌, ◌≤◌, ◌∙◌, List, length, All, sym, ap, subst, arith}
use Rattle.ds_base.specs.Values.{Row}
use Rattle.ds_marked.specs.Graph.{Graph}
use Rattle.ds_marked.specs.declared.marked.Event.{Event}
use Rattle.ds_design.specs.Circuit.{Circuit, columns}
use Rattle.ds_design.specs.InRange.{IsInRange}
use Rattle.ds_design.specs.Levels.{IsTableOrder}
use Rattle.ds_latch.specs.Node.{Split, nodes}
use Rattle.ds_latch.specs.Plan.{IsSplit}
use Rattle.ds_opening.specs.Foreseen.{foreseen_rows}
use Rattle.ds_rule.specs.Run.{Run}
use Rattle.ds_run.specs.RunOfPlan.{AreDataEdges, AreLengths, AreValues, IsRunOf}
use Rattle.ds_run.specs.Laws.{IsRunWithin}
use Rattle.ds_run.proofs.RunsAreSound.{room, run_accepted, run_sound}
use Rattle.ds_run.proofs.ClockedValues.{values_are}
use Rattle.ds_run.proofs.table_run.table_run_of.Goals as goal
use Rattle.ds_run.proofs.table_run.table_run_of.Goals.{After-events, After-of}

-- two events of each node, and the extra ones
room_there : (c : After-events)
    → 2 * nodes c.latches-split.result.now ≤ length c.events.result.now
room_there c = omega (
  arith,
  room c.args.plan.now.split c.args.plan.now.graph c.graph-graph.ensures.accepted,
  ap (λ (s : Split). nodes s) c.latches-split.ensures,
  ap (λ (g : Graph). length g.events) c.graph-graph.ensures.graph,
  ap (λ (es : List Event). length es) c.events.ensures.events,
)

pub overflow_sub-nodes : goal.overflow_sub-nodes
overflow_sub-nodes c = omega (
  arith,
  room_there (goal.at.overflow_sub-nodes c).After-events,
  c.nodes-design_nodes.ensures.nodes,
)

pub lengths_of-requires : goal.lengths_of-requires
lengths_of-requires c = omega (
  arith,
  room_there (goal.at.lengths_of-requires c).After-events,
  c.nodes-design_nodes.ensures.nodes,
)

-- how many nodes the run has
abbrev count_of : After-of → ℕ
count_of c = length c.events.result.now - c.nodes-design_nodes.result

-- the values of so many nodes of a split design
abbrev rows_of : After-of → Split → ℕ → List Row
rows_of c s n = foreseen_rows s n c.order-order.result.now c.args.vectors.now.rows

of_is : (c : After-of) → c.of.result ≡ record {
  nodes = count_of c;
  design_nodes = c.nodes-design_nodes.result;
  arcs = c.in_ok-arcs.arcs.items;
  limit = c.count-limit.result;
  edges = c.in_ok-edges.edges.items;
  lengths = c.in_ok-lengths.lengths.items;
  slack = c.from-slack.result;
  rows = rows_of c c.latches-split.result.now (count_of c);
}
of_is c = c.of.ensures

split_is : (c : After-of) → c.latches-split.result.now ≡ c.args.plan.now.split
split_is c = c.latches-split.ensures

latches_are : (c : After-of) → c.of.result.design_nodes ≡ nodes c.args.plan.now.split
latches_are c = ap (λ (r : Run). r.design_nodes) (of_is c)
    ∙ (c.nodes-design_nodes.ensures.nodes ∙ ap (λ (s : Split). nodes s) (split_is c))

nodes_are : (c : After-of)
    → c.of.result.nodes + c.of.result.design_nodes ≡ length c.args.plan.now.graph.events
nodes_are c = omega (
  arith,
  ap (λ (r : Run). r.nodes) (of_is c),
  ap (λ (r : Run). r.design_nodes) (of_is c),
  room c.args.plan.now.split c.args.plan.now.graph c.graph-graph.ensures.accepted,
  c.nodes-design_nodes.ensures.nodes,
  ap (λ (s : Split). nodes s) (split_is c),
  ap (λ (g : Graph). length g.events) c.graph-graph.ensures.graph,
  ap (λ (es : List Event). length es) c.events.ensures.events,
)

arcs_are : (c : After-of) → c.of.result.arcs ≡ c.args.plan.now.graph.arcs
arcs_are c = ap (λ (r : Run). r.arcs) (of_is c)
    ∙ (c.in_ok-arcs.ensures.items_if_clones_equal (λ x y e. e)
    ∙ (c.arcs.ensures.arcs ∙ ap (λ (g : Graph). g.arcs) c.graph-graph.ensures.graph))

edges_are : (c : After-of) → AreDataEdges c.args.plan.now.split c.of.result.edges
edges_are c = subst (λ (s : Split). AreDataEdges s c.of.result.edges) (split_is c)
    (subst (AreDataEdges c.latches-split.result.now) (sym (ap (λ (r : Run). r.edges) (of_is c)))
    c.in_ok-edges.ensures.ok)

lengths_are : (c : After-of)
    → AreLengths c.args.plan.now.split c.of.result.nodes c.of.result.lengths
lengths_are c =
    subst (λ (s : Split). AreLengths s c.of.result.nodes c.of.result.lengths) (split_is c)
    (subst (λ (r : Run). AreLengths c.latches-split.result.now r.nodes r.lengths) (sym (of_is c))
    c.in_ok-lengths.ensures)

slack_is : (c : After-of) → c.of.result.slack ≡ c.args.plan.now.split.slack
slack_is c = ap (λ (r : Run). r.slack) (of_is c)
    ∙ (c.from-slack.ensures ∙ (c.slack.ensures.slack ∙ ap (λ (s : Split). s.slack) (split_is c)))

limit_is : (c : After-of) → c.of.result.limit ≡ length c.args.vectors.now.rows
limit_is c = ap (λ (r : Run). r.limit) (of_is c) ∙ c.count-limit.ensures.value

wide : (c : After-of)
    → All (λ vector. length vector ≡ length (columns c.args.plan.now.split.circuit))
    c.args.vectors.now.rows
wide c k d inside = c.count-limit.ensures.kept.one_width k d inside ∙ c.requires.width

circuit_is : (c : After-of) → c.netlist-netlist.result.now ≡ c.args.plan.now.split.circuit
circuit_is c = c.netlist-netlist.ensures.netlist ∙ ap (λ (s : Split). s.circuit) (split_is c)

values_there : (c : After-of) → AreValues c.args.plan.now.split c.args.vectors.now.rows c.of.result
values_there c =
    let s : Split = c.args.plan.now.split in
    let among : 2 * nodes s ≤ length c.args.plan.now.graph.events
    = room s c.args.plan.now.graph c.graph-graph.ensures.accepted in
    values_are s c.order-order.result.now c.args.vectors.now.rows c.of.result
    (subst IsSplit (split_is c) c.netlist-netlist.ensures.split)
    (subst IsInRange (circuit_is c) c.design-design.ensures.in_range)
    (subst (λ (d : Circuit). IsTableOrder d c.order-order.result.now) (circuit_is c)
    c.order-order.ensures)
    (wide c) (omega (arith, among, nodes_are c, latches_are c))
    (ap (λ (r : Run). r.rows) (of_is c)
    ∙ (ap (λ (t : Split). rows_of c t (count_of c)) (split_is c)
    ∙ ap (rows_of c s) (sym (ap (λ (r : Run). r.nodes) (of_is c)))))

is_run : (c : After-of) → IsRunOf c.args.plan.now c.args.vectors.now.rows c.of.result
is_run c = record {
  latches_are = latches_are c;
  nodes_are = nodes_are c;
  arcs_are = arcs_are c;
  limit_is = limit_is c;
  edges_are = edges_are c;
  lengths_are = lengths_are c;
  slack_is = slack_is c;
  values_are = values_there c;
}

within : (c : After-of) → IsRunWithin c.args.plan.now c.args.vectors.now.rows c.of.result
within c = record {
  one_width = wide c;
  few_vectors = omega (arith, c.count-limit.ensures.few, c.count-limit.ensures.value);
  few_edges = omega (
    arith,
    c.in_ok-edges.ensures.few,
    ap (λ (s : Split). nodes s) (split_is c),
    ap (λ (r : Run). length r.edges) (of_is c),
  );
  low = omega (arith, c.slack.ensures.low, ap (λ (s : Split). s.slack) (split_is c));
  few_events = omega (
    arith,
    nodes_are c,
    c.arcs.ensures.kept.few_events,
    ap (λ (g : Graph). length g.events) c.graph-graph.ensures.graph,
  );
  few_arcs = omega (
    arith,
    c.arcs.ensures.kept.few_arcs,
    ap (λ (g : Graph). length g.arcs) c.graph-graph.ensures.graph,
  );
}

pub returns-clause-run : goal.returns-clause-run
returns-clause-run c = is_run (goal.at.returns-clause-run c).After-of

pub returns-clause-sound : goal.returns-clause-sound
returns-clause-sound c = let at = (goal.at.returns-clause-sound c).After-of in
    run_sound c.args.plan.now c.args.vectors.now.rows c.of.result (is_run at)
    c.graph-graph.ensures.accepted (within at)

pub returns-clause-accepted : goal.returns-clause-accepted
returns-clause-accepted c = let at = (goal.at.returns-clause-accepted c).After-of in
    run_accepted c.args.plan.now c.args.vectors.now.rows c.of.result (is_run at)
    c.graph-graph.ensures.accepted
