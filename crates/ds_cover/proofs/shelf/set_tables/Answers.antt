use Rattle.std.proofs.Common.{◌≡◌, ◌∙◌, ap, length, map, subst, sym}
use Rattle.std.specs.Prelude.{All}
use Rattle.ds_base.specs.Values.{Row}
use Rattle.ds_cover.specs.Small.{IsSmallWithin, after_smalls, part_of}
use Rattle.ds_cover.proofs.LentRows.{with-all}
use Rattle.ds_cover.proofs.TablesByRun.{length-after_smalls, part-map, part_unmap}
use Rattle.ds_cover.proofs.shelf.set_tables.Goals as goal

pub put_tables-requires : goal.put_tables-requires
put_tables-requires g c =
    subst (λ (row : Row). All (λ t. IsSmallWithin (g.S.SmallTable.small t) row) (part_of c.args.first c.args.end c.args.tables.now)) (sym c.values_mut.ensures.value)
    (part_unmap g.S.SmallTable.small c.args.first c.args.end c.args.tables.now c.args.nets.now c.requires.within)

pub returns : goal.returns
returns g c =
    let small = g.S.SmallTable.small in
    let smalls = part_of c.args.first c.args.end (map g.S.SmallTable.small c.args.tables.now) in
    let is : c.put_tables.new.nets ≡ after_smalls (part_of c.args.first c.args.end (map g.S.SmallTable.small c.args.tables.now)) c.args.nets.now =
    c.put_tables.ensures ∙ (ap (after_smalls (map small (part_of c.args.first c.args.end c.args.tables.now))) c.values_mut.ensures.value
    ∙ ap (λ ss. after_smalls ss c.args.nets.now) (sym (part-map small c.args.first c.args.end c.args.tables.now))) in
    with-all c.args.nets.now c.put_tables.new.nets (ap length is ∙ length-after_smalls smalls c.args.nets.now) ∙ is
