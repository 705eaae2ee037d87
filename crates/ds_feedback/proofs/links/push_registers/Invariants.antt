use Rattle.std.proofs.Common.{◌≡◌, ◌++◌, map, take}
use Rattle.ds_feedback.specs.Links.{link_of_register}
use Rattle.ds_feedback.proofs.links.push_registers.Given as goal

abbrev pub invariant-loop-register : goal.invariant-loop-register
invariant-loop-register l = l.links.items ≡ l.fn.links.items ++ map link_of_register (take l.register-index l.registers)
