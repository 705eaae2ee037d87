use Rattle.ds_split.specs.Nets.{AreMarked}
use Rattle.ds_split.proofs.Searching.{IsFirst}
use Rattle.ds_split.proofs.holders.hold.Given as goal

abbrev pub invariant-loop-register : goal.invariant-loop-register
invariant-loop-register l = AreMarked (IsFirst l.registers l.register-index) l.mark l.initial.holders.items l.holders.items
