use Rattle.std.proofs.Common.{◌≡◌, ◌∙◌, ◌<◌, ℕ, List, [], length, get_or, ap, sym, subst, arith}
use Rattle.std.proofs.lemmas.List.{get_or_default}
use Rattle.ds_latch.specs.Node.{Split, members}
use Rattle.ds_latch.specs.declared.node.Node.TheVariants.{Slave}
use Rattle.ds_fire.specs.Snapshot.{split_of, stored_values}
use Rattle.ds_outside.proofs.Pens.{puts_on, with_put}
use Rattle.ds_rows.specs.Homes.{no_home}
use Rattle.ds_rows.specs.declared.homes.Home.{Home}
use Rattle.ds_replay.proofs.StoredRegisters.{line_is}
use Rattle.ds_replay.proofs.state_text.put_register.Goals as goal

pub returns : goal.returns
returns g c =
    let home : Home = get_or c.args.homes.now c.args.r no_home in
    let inside : (get_or c.args.homes.now c.args.r no_home).cluster < length c.args.latches.now.clusters = (c.requires.homes.each c.args.r (omega (arith, c.requires.homes.one_each))).is_cluster in
    let wide : length c.as_slice-width.result.now ≡ length (members c.args.latches.now (get_or c.args.homes.now c.args.r no_home).cluster) =
    ap length (c.as_slice-width.ensures
    ∙ (c.index-clusters-home.is
    ∙ (ap (λ (cs : List (List ℕ)). get_or cs home.cluster c.index-clusters-home.result) c.clusters-clusters.ensures.clusters ∙ get_or_default c.args.latches.now.clusters home.cluster c.index-clusters-home.result [] inside))) in
    let is_cluster : (get_or c.args.homes.now c.args.r no_home).cluster < length (split_of c.args.state.now).clusters = subst (λ (s : Split). home.cluster < length s.clusters) (sym c.requires.split) inside in
    let stored : c.stored.result.now ≡ stored_values c.args.state.now (Slave (get_or c.args.homes.now c.args.r no_home).cluster) = c.stored.ensures.value (Slave home.cluster) is_cluster (sym c.latch-slave.ensures) in
    with_put (line_is c.args.state.now c.args.latches.now c.args.homes.now c.args.r c.design.result.now (length c.as_slice-width.result.now) c.stored.result.now c.requires.split (c.design.ensures.design ∙ c.netlist.ensures.netlist) wide stored)
    (puts_on (puts_on (puts_on c.put_register_name.ensures c.put.ensures) c.put_at_place.ensures) c.put-2.ensures)
