use Rattle.std.proofs.Common.{arith}
use Rattle.ds_astg.proofs.DeclaredNames.{kept_few, no_role}
use Rattle.ds_astg.proofs.signals.Signals.declaration.Goals as goal

pub returns-then-place-len-clause-few : goal.returns-then-place-len-clause-few
returns-then-place-len-clause-few c =
    kept_few c.self.inside.names c.self.inside.declared.items c.self.inside.events c.self.invariant c.args.self.now c.self.view_is c.args.name.now
    c.index.result.now c.place-place.result (omega (arith, c.len.ensures, c.self.inside.declared.ok, c.if-place-len.true)) c.index.ensures

pub returns-else-place-len-clause-role : goal.returns-else-place-len-clause-role
returns-else-place-len-clause-role c =
    no_role c.self.inside.names c.self.inside.declared.items c.self.inside.events c.self.invariant c.args.self.now c.self.view_is c.args.name.now
    c.place-place.result c.place-place.ensures.value (omega (arith, c.len.ensures, c.self.inside.declared.ok, c.if-place-len.false))
