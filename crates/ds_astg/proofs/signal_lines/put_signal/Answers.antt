use Rattle.std.proofs.Common.{ap, sym}
use Rattle.ds_marked.specs.declared.marked.Kind.{Kind}
use Rattle.ds_outside.proofs.Pens.{puts_nothing, puts_on, with_put}
use Rattle.ds_astg.specs.Text.{rising}
use Rattle.ds_astg.proofs.signal_lines.put_signal.Goals as goal

pub returns-in-Rise : goal.returns-in-Rise
returns-in-Rise g c =
    with_put (ap (λ (k : Kind). rising k c.args.event.now.signal) (sym c.in-Rise.is)) (puts_on c.put.ensures (with_put c.as_slice.ensures c.put-in-Rise.ensures))

pub returns-in-Fall : goal.returns-in-Fall
returns-in-Fall g c = with_put (ap (λ (k : Kind). rising k c.args.event.now.signal) (sym c.in-Fall.is)) (puts_nothing (g.P.Pen.writing c.args.pen.now))

pub returns-in-Dummy : goal.returns-in-Dummy
returns-in-Dummy g c = with_put (ap (λ (k : Kind). rising k c.args.event.now.signal) (sym c.in-Dummy.is)) (puts_nothing (g.P.Pen.writing c.args.pen.now))
