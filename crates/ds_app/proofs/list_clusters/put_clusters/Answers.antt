use Rattle.std.proofs.Common.{◌≡◌, ◌∙◌, ℕ, List, [], arith, length, get_or, subst, sym, ap}
use Rattle.std.proofs.lemmas.List.{take_all}
use Rattle.std.specs.Prelude.{All, ◌<◌}
use Rattle.ds_outside.specs.Pen.{Puts}
use Rattle.ds_groups.specs.Names.{register_names}
use Rattle.ds_groups.specs.Written.{cluster_line, clusters_text}
use Rattle.ds_outside.proofs.Pens.{puts_nothing, puts_on, with_put}
use Rattle.ds_app.proofs.Listing.{lent_cluster, line_more}
use Rattle.ds_app.proofs.list_clusters.put_clusters.Goals as goal

pub loop-i-init : goal.loop-i-init
loop-i-init g c = record { written = puts_nothing (g.P.Pen.writing c.args.pen.now) }

pub put_cluster-requires : goal.put_cluster-requires
put_cluster-requires g c =
    let clusters : List (List ℕ) = c.args.clusters.now in
    let low : c.loop-i.i < length c.args.clusters.now = omega (arith, ap length c.members-members.ensures) in
    let lent : c.as_slice.result.now ≡ get_or c.args.clusters.now c.loop-i.i [] =
    lent_cluster c.members-members.result.now clusters c.loop-i.i c.index-members-i.result c.as_slice.result.now c.as_slice.ensures c.index-members-i.is c.members-members.ensures low in
    subst (λ (rs : List ℕ). All (λ r. r < length c.args.design.now.registers) rs) (sym lent) (c.requires c.loop-i.i [] low)

pub loop-i-preserved : goal.loop-i-preserved
loop-i-preserved g c =
    let clusters : List (List ℕ) = c.args.clusters.now in
    let names : List (List ℕ) = register_names c.args.design.now in
    let low : c.loop-i.i < length c.args.clusters.now = omega (arith, ap length c.members-members.ensures) in
    let lent : c.as_slice.result.now ≡ get_or c.args.clusters.now c.loop-i.i [] =
    lent_cluster c.members-members.result.now clusters c.loop-i.i c.index-members-i.result c.as_slice.result.now c.as_slice.ensures c.index-members-i.is c.members-members.ensures low in
    record {
      written = with_put (sym (line_more names clusters c.loop-i.i low))
          (puts_on c.loop-i.invariant.written (with_put (ap (cluster_line names c.loop-i.i) lent) c.put_cluster.ensures));
    }

pub returns : goal.returns
returns g c =
    let many : length c.members-members.result.now ≡ length c.args.clusters.now = ap length c.members-members.ensures in
    let all : c.loop-i.i ≡ length c.args.clusters.now = omega (arith, many) in
    with_put (ap (clusters_text (register_names c.args.design.now)) (take_all c.loop-i.i c.args.clusters.now (omega (arith, all)))) c.loop-i.invariant.written
