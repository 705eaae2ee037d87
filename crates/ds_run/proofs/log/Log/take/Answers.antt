use Rattle.std.proofs.Common.{length}
use Rattle.ds_run.proofs.WindowTexts.{log_grown}
use Rattle.ds_run.proofs.log.Log.take.Goals as goal

pub returns-clause-ok : goal.returns-clause-ok
returns-clause-ok c =
    let (legal, full) = c.firings_are_legal.ensures c.args.window.now.plan.now
    c.args.window.now.vectors.now.rows
    c.args.recorded.now c.requires.finished_run.accepted c.requires.finished_run.planned
    c.requires.finished_run.whole
    c.in_ok-fired.fired.items c.in_ok-fired.ensures.ok in (
      c.in_ok-fired.fired.items,
      record { legal = legal; full = full },
      log_grown c.args.self.now c.self.inside.events.items c.extend_from_slice.new.self.items
          c.as_slice.result.now c.in_ok-fired.fired.items (length c.self.inside.counts)
          c.self.view_is c.in_ok-extend_from_slice.ensures.items c.as_slice.ensures.value,
    )
