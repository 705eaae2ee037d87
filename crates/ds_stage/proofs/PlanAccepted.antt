-- The plan of a netlist has its split design, and its graph is accepted for it.
use Rattle.std.proofs.Common.{◌≡◌, ◌≢◌, ◌∙◌, ℕ, ◌+◌, List, ◌++◌, Option, None, Some, length, length-append, arith, ap, sym, subst, AllPairs}
use Rattle.std.proofs.lemmas.List.{get_or_append_left, length-map}
use Rattle.ds_base.specs.declared.number.Mode.{Mode}
use Rattle.ds_outside.specs.Held.{Held}
use Rattle.ds_marked.specs.Graph.{Graph}
use Rattle.ds_marked.specs.declared.marked.Event.{Event}
use Rattle.ds_design.specs.Accepted.{IsAccepted}
use Rattle.ds_design.specs.Circuit.{Circuit, initial_row, initial_value}
use Rattle.ds_design.specs.declared.design.Register.{Register}
use Rattle.ds_latch.specs.Node.{Split, slackened}
use Rattle.ds_latch.specs.Plan.{IsPlan, IsSplit, Planned, split_events}
use Rattle.ds_latch.proofs.OrdersRise.{orders_are_accepted}
use Rattle.ds_accept.specs.Accept.{extra_events}
use Rattle.ds_accept.proofs.Accepted.{place_in, placed_in}
use Rattle.ds_accept.proofs.Moved.{plan}
use Rattle.ds_stage.specs.SplitStage.{IsInClusters}
use Rattle.ds_stage.specs.PlanStage.{IsNamedPlan, planned_stage}

-- a circuit in clusters is split
pub in_clusters_split : (mode : Mode) (groups : List (List ℕ)) (c : Circuit) (s : Split) → IsAccepted c → IsInClusters mode groups c s → IsSplit s
in_clusters_split mode groups c s accepted is =
    subst (λ (t : Split). IsSplit t) (sym is.is) (record {
      accepted = accepted;
      covered = is.are.each_once.covered;
      within = is.are.each_once.within;
      once = is.are.each_once.once;
      one_value_each = length-map c.registers (λ (r : Register). initial_value r.initial);
    })

-- no event of a node stands twice
nodes_once : (s : Split) (extra : List Event) → AllPairs (λ a b. a ≢ b) (split_events s ++ extra) → AllPairs (λ a b. a ≢ b) (split_events s)
nodes_once s extra once i j d below inside same =
    let size : length (split_events s ++ extra) ≡ length (split_events s) + length extra = length-append (split_events s) extra in
    once i j d below (omega (inside, size, arith))
    (get_or_append_left (split_events s) extra d i (omega (below, inside, arith)) ∙ (same ∙ sym (get_or_append_left (split_events s) extra d j inside)))

-- the plan of a graph that is acceptable is accepted
named_is_plan : (s : Split) (g : Graph) (p : Planned) → IsSplit s → IsNamedPlan s g p → IsPlan s p.graph
named_is_plan s g p split named =
    plan s g p.graph named.plan.reorders.place (place_in s g named.acceptable.there) named.graph_kept
    (nodes_once s (extra_events s g) (subst (λ (es : List Event). AllPairs (λ a b. a ≢ b) es) named.plan.events named.plan_kept.once))
    named.plan.reorders.events (placed_in s g named.acceptable.there)
    named.plan.events named.plan.reorders.arcs split named.acceptable

-- slack leaves a split design split
slackened_split : (s : Split) (slack : ℕ) → IsSplit s → IsSplit (slackened s slack)
slackened_split s slack is = record {
  accepted = is.accepted;
  covered = is.covered;
  within = is.within;
  once = is.once;
  one_value_each = is.one_value_each;
}

-- the split design of a plan is the netlist's, with slack
pub planned_in_clusters : (held : List ℕ → Held) (net : List ℕ) (graph groups : Option (List ℕ)) (mode : Mode) (slack : ℕ) (c : Circuit) (p : Planned)
    → (planned_stage held net graph groups mode slack c).means p → (s : Split) × ((gs : List (List ℕ)) × IsInClusters mode gs c s) × (p.split ≡ slackened s slack)
planned_in_clusters held net None groups mode slack c p (s, (gs, are_groups, (is, few)), own) = (s, (gs, is), own.split)
planned_in_clusters held net (Some file) groups mode slack c p (s, (gs, are_groups, (is, few)), (lines, are, (g, read, named))) = (s, (gs, is), named.plan.split)

-- the circuit of a plan is the netlist
pub planned_circuit : (held : List ℕ → Held) (net : List ℕ) (graph groups : Option (List ℕ)) (mode : Mode) (slack : ℕ) (c : Circuit) (p : Planned)
    → (planned_stage held net graph groups mode slack c).means p → p.split.circuit ≡ c
planned_circuit held net graph groups mode slack c p means =
    let (s, (gs, is), same) = planned_in_clusters held net graph groups mode slack c p means in
    ap (λ (t : Split). t.circuit) same ∙ ap (λ (t : Split). t.circuit) is.is

-- and its registers start as the netlist says
pub planned_start : (held : List ℕ → Held) (net : List ℕ) (graph groups : Option (List ℕ)) (mode : Mode) (slack : ℕ) (c : Circuit) (p : Planned)
    → (planned_stage held net graph groups mode slack c).means p → p.split.initial ≡ initial_row p.split.circuit
planned_start held net graph groups mode slack c p means =
    let (s, (gs, is), same) = planned_in_clusters held net graph groups mode slack c p means in
    ap (λ (t : Split). t.initial) same ∙ (ap (λ (t : Split). t.initial) is.is
    ∙ ap initial_row (sym (planned_circuit held net graph groups mode slack c p means)))

-- the graph of a plan is accepted
pub planned_is_plan : (held : List ℕ → Held) (net : List ℕ) (graph groups : Option (List ℕ)) (mode : Mode) (slack : ℕ) (c : Circuit) (p : Planned) → IsAccepted c
    → (planned_stage held net graph groups mode slack c).means p → IsPlan p.split p.graph
planned_is_plan held net None groups mode slack c p accepted (s, (gs, are_groups, (is, few)), own) =
    subst (λ (t : Split). IsPlan t p.graph) (sym own.split)
    (orders_are_accepted (slackened s slack) p.graph (slackened_split s slack (in_clusters_split mode gs c s accepted is)) own.graph.events own.graph.orders)
planned_is_plan held net (Some file) groups mode slack c p accepted (s, (gs, are_groups, (is, few)), (lines, are, (g, read, named))) =
    subst (λ (t : Split). IsPlan t p.graph) (sym named.plan.split)
    (named_is_plan (slackened s slack) g p (slackened_split s slack (in_clusters_split mode gs c s accepted is)) named)
