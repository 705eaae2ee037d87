use Rattle.std.proofs.Common.{◌≡◌, [], take}
use Rattle.ds_astg.specs.Text.{signals_text}
use Rattle.ds_astg.proofs.signal_lines.has_signal.Given as goal

abbrev pub invariant-loop-event : goal.invariant-loop-event
invariant-loop-event l = signals_text (take l.event-index l.events) ≡ []
