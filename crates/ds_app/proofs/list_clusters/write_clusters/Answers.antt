use Rattle.std.proofs.Common.{◌<◌, ℕ, List, ap, length, rules, subst, sym}
use Rattle.std.specs.Prelude.{All}
use Rattle.ds_design.specs.Circuit.{Circuit}
use Rattle.ds_groups.specs.Names.{register_names}
use Rattle.ds_groups.specs.Written.{clusters_text}
use Rattle.ds_outside.proofs.Pens.{finished, with_put}
use Rattle.ds_app.proofs.list_clusters.write_clusters.Goals as goal

pub put_clusters-requires : goal.put_clusters-requires
put_clusters-requires g c =
    subst (λ (d : Circuit). All (λ registers. All (λ r. r < length d.registers) registers) c.args.clusters.now) (sym c.design.ensures.design) c.requires

pub returns : goal.returns
returns g c =
    let same = ap (λ (d : Circuit). clusters_text (register_names d) c.args.clusters.now) c.design.ensures.design in
    let done = finished c.new-pen.ensures.begun (with_put same c.put_clusters.ensures) c.finish.ensures in
    search rules
