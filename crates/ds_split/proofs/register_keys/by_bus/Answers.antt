use Rattle.std.proofs.Common.{◌≡◌, ℕ, ◌+◌, ◌<◌, List, [], ◌∷◌, ◌++◌, length, get_or, sym, ◌∙◌, ap, subst, arith}
use Rattle.ds_base.specs.declared.number.Mode.TheVariants.{Bus as ByBus}
use Rattle.ds_design.specs.declared.design.Net.{Net}
use Rattle.ds_design.specs.declared.design.Register.{Register}
use Rattle.ds_split.specs.Cluster.{Agree, bus_of, bus_of_net, no_net}
use Rattle.ds_split.specs.Keyed.{AreKeys}
use Rattle.ds_split.specs.Keys.{IsPlaced, net_of_bus}
use Rattle.ds_split.proofs.BusKeys.{HaveBuses, bus_keys, next_bus}
use Rattle.ds_split.proofs.Loops.{drives}
use Rattle.ds_split.proofs.register_keys.by_bus.Goals as goal

pub loop-register-preserved : goal.loop-register-preserved
loop-register-preserved c =
    let inside : c.loop-register.register-index < length c.args.design.now.registers = omega (arith, ap length c.registers-register-items.ensures.registers) in
    let at : c.register-item.result ≡ get_or c.args.design.now.registers c.loop-register.register-index c.register-item.result =
    c.register-item.is ∙ ap (λ (rs : List Register). get_or rs c.loop-register.register-index c.register-item.result) c.registers-register-items.ensures.registers in
    let net : net_of_bus c.bus_of.result ≡ bus_of c.args.design.now c.loop-register.register-index = c.bus_of.ensures
    ∙ (ap (λ (ns : List Net). bus_of_net (get_or ns c.register-item.result.output no_net)) c.nets-nets.ensures
    ∙ drives c.args.design.now c.loop-register.register-index c.register-item.result inside at) in
    let placed : IsPlaced c.loop-register.buses (bus_of c.args.design.now c.loop-register.register-index) c.place.new.self c.in_ok-place.field-0 =
    subst (λ (n : Net). IsPlaced c.loop-register.buses n c.place.new.self c.in_ok-place.field-0) net c.in_ok-place.ensures in
    let is : c.push.new.self.items ≡ c.loop-register.keys.items ++ c.in_ok-place.field-0 ∷ [] = c.in_ok-push.ensures.items in
    subst (λ (ks : List ℕ). HaveBuses c.args.design.now (c.loop-register.register-index + 1) ks c.place.new.self) (sym is)
    (next_bus c.args.design.now c.loop-register.register-index c.loop-register.keys.items c.loop-register.buses c.in_ok-place.field-0 c.loop-register.invariant c.place.new.self placed)

pub returns : goal.returns
returns c =
    let e : c.loop-register.register-index ≡ length c.args.design.now.registers = omega (arith, ap length c.registers-register-items.ensures.registers) in
    subst (λ (n : ℕ). AreKeys (Agree c.args.design.now ByBus) n n c.loop-register.keys.items) e
    (bus_keys c.args.design.now c.loop-register.register-index c.loop-register.keys.items c.loop-register.buses c.loop-register.invariant)
