-- A split design that does not ask for too many orders has a controller graph.
use Rattle.std.proofs.Common.{◌≡◌, ◌≢◌, inl, inr, ℕ, ◌+◌, ◌*◌, ◌≤◌, List, length, refl, arith, AllPairs}
use Rattle.std.proofs.lemmas.Bool.{cases_lt}
use Rattle.ds_base.specs.Limit.{most_of}
use Rattle.ds_base.specs.declared.number.Limit.TheVariants.{Arcs}
use Rattle.ds_marked.specs.Graph.{Graph, IsKept}
use Rattle.ds_marked.specs.declared.marked.Arc.{Arc}
use Rattle.ds_marked.proofs.Enabling.{kept_sorted}
use Rattle.ds_design.specs.Accepted.{IsAccepted}
use Rattle.ds_latch.specs.Node.{Split, nodes, slackened}
use Rattle.ds_latch.specs.Latches.{HasEdges}
use Rattle.ds_latch.specs.Plan.{split_events}
use Rattle.ds_latch.specs.declared.latches.Edge.{Edge}
use Rattle.ds_latch.proofs.OrdersRise.{events_long}
use Rattle.ds_split.specs.Split.{HasTooManyOrders}
use Rattle.ds_control.specs.Orders.{AreListed, required_arcs}
use Rattle.ds_control.proofs.ListedArcs.{listed_ends, listed_few, sorted_orders, sorted_simple}
use Rattle.ds_control.proofs.DistinctEvents.{events_once}
use Rattle.ds_graph_laws.specs.TotalSplits.{HasController}
use Rattle.ds_graph_laws.proofs.DataEdgesListed.{edges_listed}
use Rattle.ds_graph_laws.proofs.SplitsDecided.{many_listed}
use Rattle.ds_graph_laws.proofs.Slack.{few_at_slack}
use Rattle.ds_graph_laws.proofs.SortedArcs.{OrderedArcs, in_order}

-- the arcs of the orders, in order, with the events of the nodes
abbrev graph_of : (s : Split) (arcs : List Arc) → OrderedArcs arcs → Graph
graph_of s arcs are = record { events = split_events s; arcs = are.sorted }

module _ (s : Split) (arcs : List Arc) (listed : AreListed s arcs) (are : OrderedArcs arcs) where
  -- the graph is one that is kept
  graph_kept : IsKept (graph_of s arcs are)
  graph_kept =
      let few : 2 * nodes s + 2 * length listed.edges ≤ 1048576 = listed.few in
      let long : length (split_events s) ≡ 2 * nodes s = events_long s in
      kept_sorted (split_events s) arcs are.sorted (events_once s (omega (few, arith))) (omega (few, long, arith)) (listed_few s arcs listed)
      are.same (listed_ends s arcs listed (length (split_events s)) long) are.rising

  -- and it is what is asked for
  has_controller : HasController s
  has_controller = (
    graph_of s arcs are,
    graph_kept,
    refl,
    sorted_orders s arcs listed (graph_of s arcs are) are.same,
    sorted_simple s arcs listed (graph_of s arcs are) are.same,
  )

-- a split design whose data edges are listed, and few, has a controller graph
pub listed_controller : (s : Split) (edges : List Edge) → HasEdges s edges → AllPairs (λ a b. a ≢ b) edges
    → 2 * nodes s + 2 * length edges ≤ 1048576 → HasController s
listed_controller s edges has once few =
    let listed : AreListed s (required_arcs s edges) = record { edges = edges; has_edges = has; once = once; few = few; is = refl } in
    has_controller s (required_arcs s edges) listed (in_order (required_arcs s edges))

-- so has one whose data edges are listed and that does not ask for too many orders
pub fitting_controller : (s : Split) (edges : List Edge) → HasEdges s edges → AllPairs (λ a b. a ≢ b) edges → ¬ HasTooManyOrders s → HasController s
fitting_controller s edges has once fits = elim (cases_lt (most_of Arcs) (2 * nodes s + 2 * length edges)) [
  | inl many ↦ absurd (fits (many_listed s edges has once many))
  | inr few ↦ listed_controller s edges has once few
]

-- a split design that does not ask for too many orders has a controller graph
pub controller_exists : (s : Split) → IsAccepted s.circuit → ¬ HasTooManyOrders s → HasController s
controller_exists s accepted = let (edges, has, once) = edges_listed s accepted in fitting_controller s edges has once

-- at every slack
pub controllers_exist : (s : Split) → IsAccepted s.circuit → ¬ HasTooManyOrders s → (slack : ℕ) → HasController (slackened s slack)
controllers_exist s accepted fits slack = controller_exists (slackened s slack) accepted (few_at_slack s slack fits)
