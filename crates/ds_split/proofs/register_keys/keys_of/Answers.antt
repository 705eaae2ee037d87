use Rattle.std.proofs.Common.{ℕ, List, length, ap, subst}
use Rattle.ds_split.specs.Keyed.{AreHolders, AreMixed}
use Rattle.ds_split.proofs.Keyed.{mixed_keys}
use Rattle.ds_split.proofs.register_keys.keys_of.Goals as goal

pub returns : goal.returns
returns c =
    let held : AreHolders (length c.args.design.now.registers) (length c.args.groups.now) c.args.groups.now c.in_ok-holders.holders.items =
    subst (λ (n : ℕ). AreHolders n (length c.args.groups.now) c.args.groups.now c.in_ok-holders.holders.items) (ap length c.registers.ensures.registers) c.in_ok-holders.ensures in
    let mix : AreMixed (length c.args.groups.now) c.in_ok-holders.holders.items c.in_ok-keys.keys.items c.in_ok-mixed.field-0.items =
    subst (λ (ks : List ℕ). AreMixed (length c.args.groups.now) c.in_ok-holders.holders.items ks c.in_ok-mixed.field-0.items) c.deref-2.ensures.value
    (subst (λ (hs : List ℕ). AreMixed (length c.args.groups.now) hs c.deref-2.result.now c.in_ok-mixed.field-0.items) c.deref.ensures.value c.in_ok-mixed.ensures) in
    mixed_keys c.args.design.now c.args.mode c.args.groups.now (length c.args.design.now.registers) c.in_ok-holders.holders.items c.in_ok-keys.keys.items c.in_ok-mixed.field-0.items
    held c.in_ok-keys.ensures mix
