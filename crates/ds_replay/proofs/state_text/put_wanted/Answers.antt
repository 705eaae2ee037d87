use Rattle.std.proofs.Common.{sym}
use Rattle.ds_outside.proofs.Pens.{puts_nothing, with_put}
use Rattle.ds_replay.proofs.OpenTexts.{part_unwanted, part_wanted}
use Rattle.ds_replay.proofs.state_text.put_wanted.Goals as goal

pub put_open_lines-requires-clause-rows : goal.put_open_lines-requires-clause-rows
put_open_lines-requires-clause-rows g c = c.requires.rows c.if-transparent.true

pub returns-then-transparent : goal.returns-then-transparent
returns-then-transparent g c =
    with_put (sym (part_wanted c.args.after.now.transparent c.args.after.now.state.now c.if-transparent.true)) c.put_open_lines.ensures

pub returns-else-transparent : goal.returns-else-transparent
returns-else-transparent g c =
    with_put (sym (part_unwanted c.args.after.now.transparent c.args.after.now.state.now c.if-transparent.false))
    (puts_nothing (g.P.Pen.writing c.args.pen.now))
