use Rattle.std.proofs.Common.{◌∙◌, arith}
use Rattle.ds_design.specs.declared.design.Register.{Register}
use Rattle.ds_settle.proofs.ByIndex.{map_by_index}
use Rattle.ds_settle.proofs.pick.set_initial.Goals as goal
use Rattle.ds_design.specs.Circuit.{initial_value}

pub returns : goal.returns
returns c = map_by_index (λ (r : Register). initial_value r.initial) c.args.registers.now c.loop-i.into (c.loop-i.invariant.same ∙ c.requires) (λ k d inside. c.loop-i.invariant.front k d (omega arith))
