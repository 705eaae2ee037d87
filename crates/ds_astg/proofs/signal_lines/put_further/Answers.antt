use Rattle.std.proofs.Common.{◌∙◌, codes, sym}
use Rattle.std.proofs.lemmas.Bool.{false≢true}
use Rattle.ds_outside.proofs.Pens.{puts_nothing, puts_on, with_put}
use Rattle.ds_astg.specs.Text.{signals_text}
use Rattle.ds_astg.proofs.GraphTextCases.{no_further, some_further}
use Rattle.ds_astg.proofs.signal_lines.put_further.Goals as goal

pub returns-then-not-has_signal : goal.returns-then-not-has_signal
returns-then-not-has_signal g c =
    with_put (no_further (codes ".internal") (signals_text c.args.events.now) (λ some. false≢true (sym c.if-not-has_signal.true ∙ c.has_signal.ensures.1 some)))
    (puts_nothing (g.P.Pen.writing c.args.pen.now))

pub returns : goal.returns
returns g c =
    with_put (some_further (codes ".internal") (signals_text c.args.events.now) (c.has_signal.ensures.0 c.if-not-has_signal.false))
    (puts_on (puts_on c.put.ensures c.put_signals.ensures) c.put-2.ensures)
