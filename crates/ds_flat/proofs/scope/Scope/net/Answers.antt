use Rattle.std.proofs.Common.{◌∙◌, ap, sym}
use Rattle.ds_flat.specs.Keys.{net_key}
use Rattle.ds_flat.proofs.Bindings.{scope_some, scope_none, scope_empty}
use Rattle.ds_flat.proofs.scope.Scope.net.Goals as goal

pub returns-then-len-eq0 : goal.returns-then-len-eq0
returns-then-len-eq0 c = ap net_key c.own.ensures
    ∙ scope_empty c.self.inside.copy c.args.name c.self.inside.bound.entries
    c.args.self.now c.self.view_is (sym c.len.ensures.len ∙ c.if-len-eq0.true)

pub returns-in-Some : goal.returns-in-Some
returns-in-Some c = scope_some c.self.inside.copy c.args.name c.self.inside.bound.entries
    c.args.self.now c.in-Some.net.now c.self.view_is c.in-Some.ensures.value

pub returns-in-None : goal.returns-in-None
returns-in-None c = ap net_key c.own-in-None.ensures
    ∙ scope_none c.self.inside.copy c.args.name c.self.inside.bound.entries
    c.args.self.now c.self.view_is c.in-None.ensures.value
