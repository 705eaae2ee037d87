use Rattle.std.proofs.Common.{◌∙◌, sym, refl}
use Rattle.std.proofs.lemmas.Bool.{false≢true}
use Rattle.ds_astg.proofs.GraphTextCases.{some_signal}
use Rattle.ds_astg.proofs.signal_lines.has_signal.Goals as goal
use Rattle.ds_astg.proofs.signal_lines.has_signal.Goals.{in-Rise, in_default}

pub returns-then-matches : goal.returns-then-matches
returns-then-matches c = elim c.match-matches.branch [
  | in-Rise w ↦ (λ _. some_signal c.args.events.now c.loop-event.event-index c.event-item.result c.loop-event-test.true c.event-item.is w.in-Rise.is, λ _. refl)
  | in_default w ↦ absurd (false≢true (sym w.matches-is ∙ c.if-matches.true))
]
