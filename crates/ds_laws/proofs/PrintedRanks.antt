-- What `graph` prints has ranks, which `accept` prints.
use Rattle.std.proofs.Common.{Some, refl, sym, subst}
use Rattle.ds_design.specs.Accepted.{IsAccepted}
use Rattle.ds_design.specs.Circuit.{Circuit}
use Rattle.ds_latch.specs.Node.{slackened}
use Rattle.ds_latch.specs.Plan.{IsPlan, Planned}
use Rattle.ds_graph_laws.proofs.RanksOrCycle.{live_graphs_have_ranks}
use Rattle.ds_stage.specs.AcceptStage.{ranks_text}
use Rattle.ds_stage.proofs.PlanAccepted.{planned_is_plan}
use Rattle.ds_laws.specs.PrintedGraphs.{IsReadBack, PrintedGraphsHaveRanks}
use Rattle.ds_laws.proofs.PrintedIsTaken.{printed_graphs_are_read}

-- what is printed is read as a plan's graph, in which nothing waits for itself
pub printed_graphs_have_ranks : PrintedGraphsHaveRanks
printed_graphs_have_ranks held job graph printed allowed told means is short =
    let back : IsReadBack held job graph printed = printed_graphs_are_read held job graph printed allowed told means is short in
    let (flat, is_flat, (same, accepts)) = back.is_circuit in
    let accepted : IsAccepted back.circuit = subst (λ (c : Circuit). IsAccepted c) (sym same) accepts in
    let p : Planned = record { split = slackened back.split job.slack; graph = back.printed_graph } in
    let plan : IsPlan p.split p.graph = planned_is_plan held job.net (Some graph) job.groups job.clusters job.slack back.circuit p accepted back.is_plan in
    let (ranks, are) = live_graphs_have_ranks p.graph plan.live in
    (ranks_text p.graph ranks, (back.circuit, back.is_circuit, (p, back.is_plan, (ranks, are, refl))))
