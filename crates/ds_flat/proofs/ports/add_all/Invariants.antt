use Rattle.std.proofs.Common.{◌≡◌, drop}
use Rattle.ds_flat.specs.Command.{with_numbers}
use Rattle.ds_flat.proofs.ports.add_all.Given as goal

abbrev pub invariant-loop-number : goal.invariant-loop-number
invariant-loop-number l = with_numbers l.ports (drop l.number-index l.numbers)
    ≡ with_numbers l.fn.ports l.numbers
