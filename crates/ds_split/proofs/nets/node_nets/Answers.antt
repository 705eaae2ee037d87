use Rattle.std.proofs.Common.{◌≡◌, ℕ, List, [], ◌∷◌, ◌++◌, get_or, map, refl, ◌∙◌, ap, arith}
use Rattle.std.proofs.lemmas.List.{get_or_default}
use Rattle.ds_design.specs.Circuit.{Circuit}
use Rattle.ds_latch.specs.Node.{members}
use Rattle.ds_design.specs.declared.design.Register.{Register}
use Rattle.ds_split.specs.Split.{split_into}
use Rattle.ds_split.proofs.NodeNets.{nets_more}
use Rattle.ds_split.proofs.nets.node_nets.Goals as goal

pub loop-cluster-preserved : goal.loop-cluster-preserved
loop-cluster-preserved c =
    let registers : c.registers-registers.result.now ≡ c.args.netlist.now.registers =
    c.registers-registers.ensures.registers ∙ ap (λ (d : Circuit). d.registers) c.design-design.ensures.design in
    let cluster : c.cluster-item.result ≡ members (split_into c.args.netlist.now c.args.clusters.now) c.loop-cluster.cluster-index =
    c.cluster-item.is ∙ (get_or_default c.members-cluster-items.result.now c.loop-cluster.cluster-index c.cluster-item.result [] (omega arith)
    ∙ ap (λ (xs : List (List ℕ)). get_or xs c.loop-cluster.cluster-index []) c.members-cluster-items.ensures) in
    let fed : List ℕ = map (λ (r : ℕ). get_or (map (λ (r : Register). r.data_net) c.registers-registers.result.now) r 0) c.as_slice.result.now in
    let driven : List ℕ = map (λ (r : ℕ). get_or (map (λ (r : Register). r.output) c.registers-registers.result.now) r 0) c.as_slice.result.now in
    nets_more (split_into c.args.netlist.now c.args.clusters.now) c.loop-cluster.cluster-index c.loop-cluster.nets.items
    (c.loop-cluster.nets.items ++ fed ∷ []) c.add_cluster.new.nets.items fed driven
    c.loop-cluster.invariant refl c.in_ok-add_cluster.ensures
    (ap (λ (rs : List Register). map (λ r. get_or (map (λ r. r.data_net) rs) r 0) c.as_slice.result.now) registers
    ∙ ap (λ (xs : List ℕ). map (λ r. get_or (map (λ r. r.data_net) c.args.netlist.now.registers) r 0) xs) (c.as_slice.ensures ∙ cluster))
    (ap (λ (rs : List Register). map (λ r. get_or (map (λ r. r.output) rs) r 0) c.as_slice.result.now) registers
    ∙ ap (λ (xs : List ℕ). map (λ r. get_or (map (λ r. r.output) c.args.netlist.now.registers) r 0) xs) (c.as_slice.ensures ∙ cluster))
