use Rattle.std.proofs.Common.{◌∙◌, ◌∷◌, ◌++◌, [], ap, arith}
use Rattle.ds_cover.proofs.SeriesGrowth.{word_shelved}
use Rattle.ds_cover.proofs.shelf.WordedShelf.add.Goals as goal

pub returns : goal.returns
returns g c =
    word_shelved g.S.SmallTable.small g.S.WordedTable.values g.S.SmallTable.width c.args.quick.now c.args.word c.self.inside.tables.items c.push_reserved.new.self.items c.self.inside.words.items c.push_reserved-2.new.self.items
    c.args.self.now c.len-first.result c.of.result c.words.result c.self.invariant c.self.view_is
    (c.push_reserved.ensures.items ∙ ap (λ ts. ts ++ c.of.result ∷ []) c.in_ok-reserve.ensures.items)
    (c.push_reserved-2.ensures.items ∙ ap (λ ws. ws ++ c.words.result ∷ []) c.in_ok-reserve-2.ensures.items)
    (omega (c.len-first.ensures, c.in_ok-reserve.ensures.len, c.self.inside.tables.ok.0, arith))
    (omega (c.len-first.ensures, c.in_ok-reserve.ensures.len, c.self.inside.tables.ok.0, c.self.inside.tables.ok.1, c.self.inside.tables.small, arith)) c.of.ensures c.words.ensures
