use Rattle.std.proofs.Common.{◌≡◌, ◌<◌, false, length, subst, sym, refl, arith}
use Rattle.ds_lines.specs.Names.{has_name}
use Rattle.ds_astg.specs.Signals.{Declared}
use Rattle.ds_astg.proofs.DeclaredNames.{all_few, named_one, numbered_one}
use Rattle.ds_astg.proofs.signals.Signals.add.Goals as goal

pub invariant_of-self-in_err-push : goal.invariant_of-self-in_err-push
invariant_of-self-in_err-push c =
    let new = subst (λ (s : Declared). has_name s.names c.args.word.now ≡ false) (sym c.self.view_is) c.requires.new in
    let room = subst (λ (s : Declared). length s.names < 65536) (sym c.self.view_is) c.requires.room in
    rw (c.in_ok-insert.ensures.ok, c.in_err-push.ensures.items)
    (named_one c.self.inside.names c.self.inside.declared.items c.self.inside.events c.args.word.now c.self.invariant room new)

pub overflow_add-self : goal.overflow_add-self
overflow_add-self c =
    let few = all_few c.self.inside.names c.self.inside.declared.items c.self.inside.events c.self.invariant in
    omega (arith, few, c.count.ensures.few)

pub invariant_of-self-2 : goal.invariant_of-self-2
invariant_of-self-2 c =
    let new = subst (λ (s : Declared). has_name s.names c.args.word.now ≡ false) (sym c.self.view_is) c.requires.new in
    let room = subst (λ (s : Declared). length s.names < 65536) (sym c.self.view_is) c.requires.room in
    rw (c.in_ok-insert.ensures.ok, c.in_ok-push.ensures.items, c.count.ensures.value)
    (numbered_one c.self.inside.names c.self.inside.declared.items c.self.inside.events c.args.word.now c.self.invariant room new
    (record { role = c.args.role; first = c.self.inside.events }) refl)
