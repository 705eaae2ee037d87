use Rattle.std.proofs.Common.{◌≡◌, ◌∙◌, ap, length, subst, sym}
use Rattle.std.specs.Prelude.{All}
use Rattle.ds_base.specs.Values.{Row}
use Rattle.ds_cover.specs.Small.{IsSmallWithin, after_worded, paired, part_of, worded_by}
use Rattle.ds_cover.proofs.LentRows.{with-all}
use Rattle.ds_cover.proofs.TablesByRun.{length-after_worded, paired-part, part_unmap}
use Rattle.ds_cover.proofs.shelf.set_words.Goals as goal

pub put_words-requires-clause-within : goal.put_words-requires-clause-within
put_words-requires-clause-within g c =
    subst (λ (row : Row). All (λ t. IsSmallWithin (g.S.SmallTable.small t) row) (part_of c.args.first c.args.end c.args.tables.now)) (sym c.values_mut.ensures.value)
    (part_unmap g.S.SmallTable.small c.args.first c.args.end c.args.tables.now c.args.nets.now c.requires.within)

pub returns : goal.returns
returns g c =
    let worded = worded_by g.S.SmallTable.small g.S.WordedTable.values in
    let items = part_of c.args.first c.args.end (paired (worded_by g.S.SmallTable.small g.S.WordedTable.values) c.args.tables.now c.args.words.now) in
    let is : c.put_words.new.nets ≡ after_worded (part_of c.args.first c.args.end (paired (worded_by g.S.SmallTable.small g.S.WordedTable.values) c.args.tables.now c.args.words.now)) c.args.nets.now =
    c.put_words.ensures
    ∙ (ap (after_worded (paired worded (part_of c.args.first c.args.end c.args.tables.now) (part_of c.args.first c.args.end c.args.words.now))) c.values_mut.ensures.value
    ∙ ap (λ ss. after_worded ss c.args.nets.now) (sym (paired-part worded c.args.first c.args.end c.args.tables.now c.args.words.now))) in
    with-all c.args.nets.now c.put_words.new.nets (ap length is ∙ length-after_worded items c.args.nets.now) ∙ is
