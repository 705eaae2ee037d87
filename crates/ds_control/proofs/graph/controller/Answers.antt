use Rattle.std.proofs.Common.{◌≡◌, ◌≢◌, ◌∙◌, ◌++◌, ℕ, ◌+◌, ◌*◌, ◌≤◌, List, length, AllPairs, IsPermutation, ap, sym, subst, arith}
use Rattle.ds_marked.specs.Graph.{Graph}
use Rattle.ds_marked.specs.declared.marked.Arc.{Arc}
use Rattle.ds_marked.specs.declared.marked.Event.{Event}
use Rattle.ds_latch.specs.Node.{Split, nodes}
use Rattle.ds_latch.specs.declared.node.Node.TheVariants.{In, Out}
use Rattle.ds_latch.specs.Plan.{IsPlan, node_events, split_events}
use Rattle.ds_latch.proofs.OrdersRise.{events_long, orders_are_accepted}
use Rattle.ds_control.specs.Control.{AreOrders, IsSimple}
use Rattle.ds_control.specs.Orders.{AreListed, cluster_events}
use Rattle.ds_control.proofs.DistinctEvents.{events_once}
use Rattle.ds_control.proofs.ListedArcs.{listed_ends, listed_few, sorted_simple, sorted_orders, if_ok, if_both}
use Rattle.ds_control.proofs.graph.controller.Goals as goal

-- the events that are made are those of the nodes
made : (s : Split) (events : List Event) (clusters : List (List ℕ)) → events ≡ node_events In ++ node_events Out ++ cluster_events (length clusters) → clusters ≡ s.clusters
    → events ≡ split_events s
made s events clusters is same =
    is ∙ ap (λ (xs : List (List ℕ)). node_events In ++ node_events Out ++ cluster_events (length xs)) same

few_nodes : (s : Split) (arcs : List Arc) → AreListed s arcs → 2 * nodes s ≤ 1048576
few_nodes s arcs listed = let few : 2 * nodes s + 2 * length listed.edges ≤ 1048576 = listed.few in omega arith

pub new-requires-clause-ends : goal.new-requires-clause-ends
new-requires-clause-ends c =
    let s : Split = c.args.latches.now in
    let is : c.in_ok-events.events ≡ split_events s = made s c.in_ok-events.events c.clusters.result.now c.in_ok-events.ensures c.clusters.ensures.clusters in
    listed_ends s c.in_ok-arcs.arcs.items c.in_ok-arcs.ensures (length c.in_ok-events.events) (ap (λ (xs : List Event). length xs) is ∙ events_long s)

pub new-requires-clause-once : goal.new-requires-clause-once
new-requires-clause-once c =
    let s : Split = c.args.latches.now in
    let is : c.in_ok-events.events ≡ split_events s = made s c.in_ok-events.events c.clusters.result.now c.in_ok-events.ensures c.clusters.ensures.clusters in
    let few : 2 * nodes s ≤ 1048576 = few_nodes s c.in_ok-arcs.arcs.items c.in_ok-arcs.ensures in
    subst (AllPairs (λ a b. a ≢ b)) (sym is) (events_once s (omega (few, arith)))

pub new-requires-clause-few : goal.new-requires-clause-few
new-requires-clause-few c =
    let s : Split = c.args.latches.now in
    let is : c.in_ok-events.events ≡ split_events s = made s c.in_ok-events.events c.clusters.result.now c.in_ok-events.ensures c.clusters.ensures.clusters in
    let few : 2 * nodes s ≤ 1048576 = few_nodes s c.in_ok-arcs.arcs.items c.in_ok-arcs.ensures in
    let size : length c.in_ok-events.events ≡ 2 * nodes s = ap (λ (xs : List Event). length xs) is ∙ events_long s in
    (omega (few, size, arith), listed_few s c.in_ok-arcs.arcs.items c.in_ok-arcs.ensures)

pub returns-clause-ok_orders : goal.returns-clause-ok_orders
returns-clause-ok_orders c =
    let s : Split = c.args.latches.now in
    if_ok c.new.result (λ (g : Graph). IsPermutation c.in_ok-arcs.arcs.items g.arcs) (AreOrders s) (sorted_orders s c.in_ok-arcs.arcs.items c.in_ok-arcs.ensures) c.new.ensures.ok_arcs

pub returns-clause-ok_simple : goal.returns-clause-ok_simple
returns-clause-ok_simple c =
    let s : Split = c.args.latches.now in
    if_ok c.new.result (λ (g : Graph). IsPermutation c.in_ok-arcs.arcs.items g.arcs) IsSimple (sorted_simple s c.in_ok-arcs.arcs.items c.in_ok-arcs.ensures) c.new.ensures.ok_arcs

pub returns-clause-ok_plan : goal.returns-clause-ok_plan
returns-clause-ok_plan c =
    let s : Split = c.args.latches.now in
    let is : c.in_ok-events.events ≡ split_events s = made s c.in_ok-events.events c.clusters.result.now c.in_ok-events.ensures c.clusters.ensures.clusters in
    if_both c.new.result (λ (g : Graph). g.events ≡ c.in_ok-events.events) (λ (g : Graph). IsPermutation c.in_ok-arcs.arcs.items g.arcs) (IsPlan s)
    (λ g events same. orders_are_accepted s g c.clusters.ensures.split (events ∙ is) (sorted_orders s c.in_ok-arcs.arcs.items c.in_ok-arcs.ensures g same)) c.new.ensures.ok_events c.new.ensures.ok_arcs
