use Rattle.std.proofs.Common.{◌∙◌, sym, arith}
use Rattle.ds_replay.proofs.LogStart.{start_here, start_none}
use Rattle.ds_replay.proofs.start.start.Goals as goal

pub returns-then-is_firings-clause-value : goal.returns-then-is_firings-clause-value
returns-then-is_firings-clause-value c =
    start_here c.args.lines.now c.loop-i.i (omega arith) c.loop-i.invariant (sym c.is_firings.ensures ∙ c.if-is_firings.true)

pub returns-clause-value : goal.returns-clause-value
returns-clause-value c = start_none c.args.lines.now c.loop-i.i (omega arith) (omega arith) c.loop-i.invariant
