use Rattle.std.proofs.Common.{List, ap, codes}
use Rattle.ds_marked.specs.declared.marked.Event.{Event}
use Rattle.ds_outside.proofs.Pens.{puts_on, with_put}
use Rattle.ds_astg.specs.Pieces.{line_with}
use Rattle.ds_astg.specs.Text.{signals_text}
use Rattle.ds_astg.proofs.signal_lines.put_signal_lines.Goals as goal

pub returns : goal.returns
returns g c =
    puts_on (puts_on (puts_on c.put.ensures (with_put (ap signals_text c.parted.ensures.first) c.put_signals.ensures)) c.put-2.ensures)
    (with_put (ap (λ (es : List Event). line_with (codes ".internal") (signals_text es)) c.parted.ensures.further) c.put_further.ensures)
