use Rattle.std.proofs.Common.{rules}
use Rattle.ds_outside.proofs.Pens.{finished}
use Rattle.ds_run.proofs.TraceLines.{text_held}
use Rattle.ds_run.proofs.trace_part.text_of.Goals as goal

pub returns-in-Ok-finish : goal.returns-in-Ok-finish
returns-in-Ok-finish c = λ vectors over many before start.
    let at = c.put_range.ensures.lines vectors over many before start in
    let (text, spelt, puts) = at.written in
    let done = finished c.new-pen.ensures.begun puts c.finish.ensures in
    record {
      text = at.text;
      written = (text, spelt, text_held _ text _ c.in-Ok-with_room.ensures.empty (search rules));
      rest = at.rest;
    }
