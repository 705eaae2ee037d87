use Rattle.std.proofs.Common.{◌≡◌, ℕ, List, length, map, sym, ◌∙◌, ap, subst, arith}
use Rattle.ds_base.specs.Values.{Row}
use Rattle.ds_design.specs.Circuit.{Circuit, initial_row, initial_value}
use Rattle.ds_latch.specs.Latches.{AreParts}
use Rattle.ds_design.specs.declared.design.Register.{Register}
use Rattle.ds_split.proofs.DataEdges.{parts}
use Rattle.ds_split.proofs.graph.split.Goals as goal

pub nets_and_edges-requires-clause-few : goal.nets_and_edges-requires-clause-few
nets_and_edges-requires-clause-few c = omega (arith, c.if-members-most.false, c.most.ensures, ap length c.members.ensures)

pub of-requires : goal.of-requires
of-requires c = let (nodes, edges) = c.in_ok-nets.ensures.ok in
    let row : c.in_ok-initial.initial ≡ initial_row c.args.netlist.now =
    c.in_ok-initial.ensures ∙ ap (λ (rs : List Register). map (λ r. initial_value r.initial) rs)
    (c.registers.ensures.registers ∙ ap (λ (d : Circuit). d.registers) c.design.ensures.design) in
    let members : c.in_ok-members.members ≡ c.args.clusters.now = c.in_ok-members.ensures ∙ c.members-2.ensures in
    subst (λ (xs : List (List ℕ)). AreParts (record {
      circuit = c.args.netlist.now;
      clusters = xs;
      initial = c.in_ok-initial.initial;
      slack = 0;
    }) c.in_ok-nets.nets c.in_ok-nets.edges) (sym members)
    (subst (λ (start : Row). AreParts (record {
      circuit = c.args.netlist.now;
      clusters = c.args.clusters.now;
      initial = start;
      slack = 0;
    }) c.in_ok-nets.nets c.in_ok-nets.edges) (sym row)
    (parts c.args.netlist.now c.args.clusters.now c.in_ok-nets.nets c.in_ok-nets.edges nodes edges))
