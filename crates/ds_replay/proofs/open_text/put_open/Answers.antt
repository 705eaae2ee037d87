use Rattle.std.proofs.Common.{◌≡◌, ◌∙◌, ◌<◌, ℕ, true, List, [], length, get_or, sym, ap, arith}
use Rattle.std.proofs.lemmas.List.{get_or_default}
use Rattle.ds_base.specs.Values.{Row}
use Rattle.ds_fire.specs.Snapshot.{is_open}
use Rattle.ds_outside.proofs.Pens.{puts_nothing, with_put}
use Rattle.ds_replay.proofs.OpenTexts.{closed_line, open_line_is}
use Rattle.ds_replay.proofs.open_text.put_open.Goals as goal

pub returns-then-not-is_open : goal.returns-then-not-is_open
returns-then-not-is_open g c n is_node is =
    with_put (sym (closed_line c.args.state.now n (sym (c.is_open.ensures.value n is_node is) ∙ c.if-not-is_open.true)))
    (puts_nothing (g.P.Pen.writing c.args.pen.now))

pub returns : goal.returns
returns g c n is_node is =
    let rows : List Row = c.args.rows.now in
    let opened : is_open c.args.state.now n ≡ true = sym (c.is_open.ensures.value n is_node is) ∙ c.if-not-is_open.false in
    let here : c.index-at.result ≡ c.args.node = c.index-at.ensures in
    let below : c.args.node < length c.args.rows.now = omega (arith, c.requires.node, c.requires.rows.one_each) in
    let row : c.index-rows-at.result ≡ get_or c.args.rows.now c.args.node [] =
    c.index-rows-at.is ∙ (ap (λ (k : ℕ). get_or rows k c.index-rows-at.result) here ∙ get_or_default rows c.args.node c.index-rows-at.result [] below) in
    with_put (open_line_is c.args.state.now n c.index-rows-at.result opened (row ∙ c.requires.rows.each c.args.node below n is_node is opened))
    (c.put_open_line.ensures n is)
