use Rattle.std.proofs.Common.{arith, sym, ◌∙◌}
use Rattle.ds_astg.proofs.PlaceKeys.{added}
use Rattle.ds_astg.proofs.places.Places.add.Goals as goal

pub returns-clause-ok : goal.returns-clause-ok
returns-clause-ok c = added c.args.key c.args.place c.self.inside.keys.keys c.insert.new.self.keys c.self.inside.places.items c.push.new.self.items c.args.self.now
    c.self.view_is (sym c.if-has.false ∙ c.has.ensures) (omega (arith, c.len.ensures.len, c.most.ensures, c.if-len-most.false)) c.in_ok-insert.ensures.keys c.in_ok-push.ensures.items
