use Rattle.std.proofs.Common.{◌≡◌, ◌<◌, ℕ, false}
use Rattle.ds_lines.specs.Line.{line_or_none}
use Rattle.ds_replay.specs.Replay.{is_firings}
use Rattle.ds_replay.proofs.start.start.Given as goal

abbrev pub invariant-loop-i : goal.invariant-loop-i
invariant-loop-i l = (k : ℕ) → k < l.i → is_firings (line_or_none l.lines k) ≡ false
