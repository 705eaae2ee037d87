use Rattle.ds_flat.proofs.Bindings.{scope_bind}
use Rattle.ds_flat.proofs.scope.Scope.bind.Goals as goal

pub returns : goal.returns
returns c = scope_bind c.self.inside.copy c.args.formal c.args.net c.self.inside.bound.entries
    c.insert.new.self.entries c.args.self.now c.self.view_is c.requires.new
    c.in_ok-insert.ensures.entries
