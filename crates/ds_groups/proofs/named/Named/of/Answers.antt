use Rattle.std.proofs.Common.{◌≡◌, ℕ, length, arith, ap, subst}
use Rattle.ds_groups.specs.Indexed.{IsIndex}
use Rattle.ds_groups.specs.Names.{driven_nets}
use Rattle.ds_groups.proofs.DrivenNets.{length-driven, put_next, short_all, short_more}
use Rattle.ds_groups.proofs.named.Named.of.Goals as goal

pub loop-i-init : goal.loop-i-init
loop-i-init c = record { index = c.new-index.ensures (driven_nets c.args.design.now); short = λ r low. absurd (omega arith) }

pub loop-i-preserved : goal.loop-i-preserved
loop-i-preserved c = record {
  index = put_next (driven_nets c.args.design.now) c.loop-i.i c.new-register.result c.net_of-net.result.now c.loop-i.index c.put.new.self c.new-register.ensures c.net_of-net.ensures.net
      (c.in_ok-put.ensures (driven_nets c.args.design.now)) c.loop-i.invariant.index;
  short = short_more (driven_nets c.args.design.now) c.loop-i.i c.net_of-net.result.now c.net_of-net.ensures.net c.net_of-net.ensures.short c.loop-i.invariant.short;
}

pub invariant_of-result : goal.invariant_of-result
invariant_of-result c =
    let n : length (driven_nets c.args.design.now) ≡ length c.args.design.now.registers = length-driven c.args.design.now in
    let m : length c.registers-i-end.result.now ≡ length c.args.design.now.registers = ap length c.registers-i-end.ensures.registers in
    let e : c.loop-i.i ≡ length (driven_nets c.args.design.now) = omega (arith, c.loop-i-test.false, c.loop-i.auto.i-end) in (
      subst (λ (k : ℕ). IsIndex (driven_nets c.args.design.now) k c.loop-i.index) e c.loop-i.invariant.index,
      short_all (driven_nets c.args.design.now) c.loop-i.i (omega arith) c.loop-i.invariant.short,
    )
