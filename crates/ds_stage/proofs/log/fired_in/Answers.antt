use Rattle.std.proofs.Common.{◌∙◌, length, sym}
use Rattle.ds_replay.proofs.LogLines.{each_line}
use Rattle.ds_stage.proofs.log.fired_in.Goals as goal

pub returns-in-Ok : goal.returns-in-Ok
returns-in-Ok c =
    let (events, replays, state) = c.in-Ok.ensures in (
      events,
      (c.in_ok-lines.lines, c.in_ok-lines.ensures, replays),
      record {
        state = state;
        count = c.firings.ensures ∙ sym (each_line c.args.plan.now.graph (length c.args.vectors.now.rows) c.in_ok-lines.lines events replays);
      },
    )
