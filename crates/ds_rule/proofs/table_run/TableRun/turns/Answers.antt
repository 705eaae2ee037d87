use Rattle.std.proofs.Common.{◌∙◌, ap}
use Rattle.ds_rule.specs.Run.{Run}
use Rattle.ds_rule.proofs.table_run.TableRun.turns.Goals as goal

pub returns : goal.returns
returns g c = c.turns.ensures
    ∙ (c.of-event.ensures c.args.self.now (ap (λ (r : Run). r.design_nodes) c.self.view_is)).turns_is c.args.fired
