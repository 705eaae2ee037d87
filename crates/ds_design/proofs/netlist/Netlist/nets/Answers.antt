use Rattle.std.proofs.Common.{◌≡◌, ◌+◌, arith, length}
use Rattle.ds_design.specs.Levels.{net_count}
use Rattle.ds_design.proofs.ControlNames.{lent_all, lent_but_one}
use Rattle.ds_design.proofs.netlist.Netlist.nets.Goals as goal

counted : (c : goal.Then-has_clock) → length c.nets.result.now ≡ net_count c.args.self.now + 1
counted c = lent_but_one c.args.self.now c.design-design.result.now c.nets.result.now c.nets.ensures c.design-design.ensures.design
    c.design-design.ensures.in_range c.design-design.ensures.accepted (c.has_clock.ensures.value.0 c.if-has_clock.true)

pub overflow_sub-result : goal.overflow_sub-result
overflow_sub-result c = omega (arith, counted c)

pub returns-then-has_clock : goal.returns-then-has_clock
returns-then-has_clock c = record { value = omega (arith, counted c) }

pub returns-else-has_clock : goal.returns-else-has_clock
returns-else-has_clock c = record {
  value = lent_all c.args.self.now c.design-design.result.now c.nets.result.now c.nets.ensures c.design-design.ensures.design
      c.design-design.ensures.in_range (λ some. let yes = c.has_clock.ensures.value.1 some in absurd (cc));
}
