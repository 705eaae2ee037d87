use Rattle.std.proofs.Common.{sym}
use Rattle.ds_app.proofs.period.write_period.Goals as goal

pub returns-in-Ok-clause-value : goal.returns-in-Ok-clause-value
returns-in-Ok-clause-value g c = (
  c.in_ok-text.text.items,
  record {
    p = c.in_ok-period.period.p;
    q = c.in_ok-period.period.q;
    cycle = c.in_ok-period.period.cycle;
    potentials = c.in_ok-period.period.potentials;
    period = c.in_ok-period.ensures;
    spelt = c.in_ok-text.ensures;
  },
  rw (sym c.deref.ensures.value) c.in-Ok.ensures.ok,
)
