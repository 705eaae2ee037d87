use Rattle.std.proofs.Common.{◌≡◌, ◌∙◌, ◌<◌, ◌+◌, ◌*◌, ℕ, List, [], length, get_or, ap, arith, sym}
use Rattle.std.proofs.lemmas.List.{get_or_default}
use Rattle.ds_latch.specs.Node.{members, number_of}
use Rattle.ds_latch.specs.declared.node.Node.TheVariants.{Slave}
use Rattle.ds_fire.proofs.InitialRows.{slave_wide}
use Rattle.ds_fire.proofs.kept.set_first.Goals as goal

pub set_initial-requires-clause-one_each : goal.set_initial-requires-clause-one_each
set_initial-requires-clause-one_each c =
    let i : ℕ = c.in-Slave.cluster in
    let cluster : List ℕ = c.index-clusters-cluster.result in
    let at : number_of (Slave i) ≡ c.args.number = ap number_of (sym c.in-Slave.is) ∙ (c.of.ensures ∙ c.new.ensures) in
    let low : i < length c.args.latches.now.clusters = omega (at, c.requires.node, arith) in
    let is : c.as_slice-registers.result.now ≡ members c.args.latches.now i =
    c.as_slice-registers.ensures
    ∙ (c.index-clusters-cluster.is
    ∙ (ap (λ (cs : List (List ℕ)). get_or cs i cluster) c.clusters.ensures.clusters ∙ get_or_default c.args.latches.now.clusters i cluster [] low)) in
    slave_wide c.args.latches.now i c.args.row.now (c.requires.zeros (Slave i) low at) c.as_slice-registers.result.now is
