use Rattle.std.proofs.Common.{◌≡◌, [], drop}
use Rattle.ds_blif.specs.State.{first_fault}
use Rattle.ds_blif.proofs.FirstFault.{fault_from}
use Rattle.ds_blif.proofs.check.check.Given as goal

abbrev pub invariant-loop-i : goal.invariant-loop-i
invariant-loop-i l = first_fault [] l.lines ≡ fault_from l.state (drop l.i l.lines)
