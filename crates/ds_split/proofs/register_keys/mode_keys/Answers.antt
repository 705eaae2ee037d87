use Rattle.std.proofs.Common.{◌≡◌, ℕ, length, sym, ap, subst}
use Rattle.std.specs.Prelude.{IfOk, ⊤}
use Rattle.ds_base.specs.declared.number.Mode.{Mode}
use Rattle.ds_split.specs.Cluster.{Agree}
use Rattle.ds_split.specs.Keyed.{AreKeys}
use Rattle.ds_split.proofs.register_keys.mode_keys.Goals as goal

pub returns-in-Each : goal.returns-in-Each
returns-in-Each c =
    subst (λ (m : Mode). IfOk c.rising.result (λ keys. AreKeys (Agree c.args.design.now m) (length c.args.design.now.registers) (length c.args.design.now.registers) keys.items)) (sym c.in-Each.is)
    (subst (λ (n : ℕ). IfOk c.rising.result (λ keys. AreKeys (λ a b. a ≡ b) n n keys.items)) (ap length c.registers-count.ensures.registers) c.rising.ensures)

pub returns-in-One : goal.returns-in-One
returns-in-One c =
    subst (λ (m : Mode). IfOk c.alike.result (λ keys. AreKeys (Agree c.args.design.now m) (length c.args.design.now.registers) (length c.args.design.now.registers) keys.items)) (sym c.in-One.is)
    (subst (λ (n : ℕ). IfOk c.alike.result (λ keys. AreKeys (λ a b. ⊤) n n keys.items)) (ap length c.registers-count.ensures.registers) c.alike.ensures)

pub returns-in-Bus : goal.returns-in-Bus
returns-in-Bus c =
    subst (λ (m : Mode). IfOk c.by_bus.result (λ keys. AreKeys (Agree c.args.design.now m) (length c.args.design.now.registers) (length c.args.design.now.registers) keys.items)) (sym c.in-Bus.is)
    c.by_bus.ensures
