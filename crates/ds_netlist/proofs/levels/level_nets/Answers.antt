use Rattle.std.proofs.Common.{◌≡◌, ◌∙◌, ℕ, List, length, ap, sym, subst, arith, inl, inr, Err}
use Rattle.std.specs.List.{slice_index}
use Rattle.ds_design.specs.declared.design.Gate.{Gate}
use Rattle.ds_design.specs.declared.design.Net.{Net}
use Rattle.ds_rank.specs.declared.edge.Edge.{Edge}
use Rattle.ds_rank.specs.Order.{HasEdge, IsCycle}
use Rattle.ds_rank.proofs.RelatedOrders.{cycle_by, ranks_by}
use Rattle.ds_netlist.specs.Edges.{IsCycleOnly, edges_of, floor_in}
use Rattle.ds_design.specs.Reach.{Feeds}
use Rattle.ds_netlist.specs.declared.fault.NetFault.{NetFault}
use Rattle.ds_netlist.proofs.TableEdges.{fed_ends, fed_from, fed_into}
use Rattle.ds_netlist.proofs.levels.level_nets.Goals as goal

pub least_ranks-requires-clause-ends : goal.least_ranks-requires-clause-ends
least_ranks-requires-clause-ends c =
    let edges : c.as_slice-2.result.now ≡ edges_of c.args.design.now.tables =
    c.as_slice-2.ensures.value ∙ c.in_ok-edges.ensures.ok ∙ ap edges_of c.tables-tables.ensures.tables in
    let size : length c.as_slice.result.now ≡ length c.args.design.now.nets =
    ap (λ (xs : List ℕ). length xs) c.as_slice.ensures.value ∙ c.in_ok-floors.ensures.ok.0
    ∙ ap (λ (xs : List Net). length xs) c.nets.ensures in
    rw (edges, size) (fed_ends c.args.design.now.tables (length c.args.design.now.nets) c.tables-tables.ensures.in_range.tables)

pub returns-in-Ok-clause-ok : goal.returns-in-Ok-clause-ok
returns-in-Ok-clause-ok c =
    let edges : c.as_slice-2.result.now ≡ edges_of c.args.design.now.tables =
    c.as_slice-2.ensures.value ∙ c.in_ok-edges.ensures.ok ∙ ap edges_of c.tables-tables.ensures.tables in
    let size : length c.as_slice.result.now ≡ length c.args.design.now.nets =
    ap (λ (xs : List ℕ). length xs) c.as_slice.ensures.value ∙ c.in_ok-floors.ensures.ok.0
    ∙ ap (λ (xs : List Net). length xs) c.nets.ensures in
    let count : length c.nets.result.now ≡ length c.args.design.now.nets = ap (λ (xs : List Net). length xs) c.nets.ensures in
    ranks_by (HasEdge c.as_slice-2.result.now) (Feeds c.args.design.now)
    (λ u v h. fed_from c.args.design.now.tables u v (subst (λ (es : List Edge). HasEdge es u v) edges h))
    (λ u v h. subst (λ (es : List Edge). HasEdge es u v) (sym edges) (fed_into c.args.design.now.tables u v h))
    (length c.as_slice.result.now) (length c.args.design.now.nets) (slice_index c.as_slice.result.now) (floor_in c.args.design.now.tables)
    c.in-Ok.levels.items size
    (λ v lt. ap (λ (xs : List ℕ). slice_index xs v) c.as_slice.ensures.value ∙ c.in_ok-floors.ensures.ok.1 v (omega arith)
    ∙ ap (λ (ts : List Gate). floor_in ts v) c.tables-tables.ensures.tables)
    c.in-Ok.ensures.ok

pub returns-in-Err-Cycle-clause-fault : goal.returns-in-Err-Cycle-clause-fault
returns-in-Err-Cycle-clause-fault c =
    let edges : c.as_slice-2.result.now ≡ edges_of c.args.design.now.tables =
    c.as_slice-2.ensures.value ∙ c.in_ok-edges.ensures.ok ∙ ap edges_of c.tables-tables.ensures.tables in
    let walk = c.in-Err-Cycle.ensures.cycle c.in-Err-Cycle.nodes (ap Err c.in-Err-Cycle.field-0-is) in
    let feeds = cycle_by (HasEdge c.as_slice-2.result.now) (Feeds c.args.design.now)
    (λ u v h. fed_from c.args.design.now.tables u v (subst (λ (es : List Edge). HasEdge es u v) edges h))
    c.in-Err-Cycle.nodes.items walk in
    elim c.cycle_of.ensures.value [
      | inl none ↦ rw none tt
      | inr is ↦
          let same : c.in-Err-Cycle.nodes.items ≡ c.as_slice-in-Err-Cycle.result.now = sym c.as_slice-in-Err-Cycle.ensures.value in
          subst (λ (fault : NetFault). IsCycleOnly c.args.design.now fault) (sym is) (subst (λ (xs : List ℕ). IsCycle (Feeds c.args.design.now) xs) same feeds)
    ]
