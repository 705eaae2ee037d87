use Rattle.std.proofs.Common.{take}
use Rattle.ds_design.specs.Banked.{IsBankOf}
use Rattle.ds_netlist.proofs.packed.bank_of.Given as goal

abbrev pub invariant-loop-gate : goal.invariant-loop-gate
invariant-loop-gate l = IsBankOf (take l.gate-index l.tables) l.bank
