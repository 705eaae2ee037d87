use Rattle.std.proofs.Common.{◌∙◌, eqb-true, refl, sym}
use Rattle.ds_design.proofs.ControlNames.{clock_first, clock_later}
use Rattle.ds_design.proofs.netlist.has_clock.Goals as goal

pub returns-then-not-is_empty : goal.returns-then-not-is_empty
returns-then-not-is_empty c =
    let some = clock_first c.args.design.now c.clocks.result.now c.clocks.ensures.clocks (sym c.is_empty.ensures ∙ c.if-not-is_empty.true) in
    rw c.if-not-is_empty.true (record { value = (λ _. some, λ _. refl) })

pub returns-else-not-is_empty : goal.returns-else-not-is_empty
returns-else-not-is_empty c = rw c.has_control.ensures.value (record {
  value = clock_later c.args.design.now c.clocks.result.now c.registers.result.now c.clocks.ensures.clocks
      (eqb-true _ _ (sym c.is_empty.ensures ∙ c.if-not-is_empty.false)) c.registers.ensures.registers;
})
