use Rattle.std.proofs.Common.{◌≡◌, drop}
use Rattle.ds_outside.specs.Memory.{held_in}
use Rattle.ds_outside.proofs.entry.find.Given as goal

abbrev pub invariant-loop-entry : goal.invariant-loop-entry
invariant-loop-entry l = held_in l.entries l.name ≡ held_in (drop l.entry-index l.entries) l.name
