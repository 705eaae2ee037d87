use Rattle.std.proofs.Common.{◌≡◌, ◌++◌, drop}
use Rattle.ds_flat.specs.Bare.{needed}
use Rattle.ds_flat.proofs.bare.needed.Given as goal

abbrev pub invariant-loop-command : goal.invariant-loop-command
invariant-loop-command l = l.all.items ++ needed (drop l.command-index l.commands)
    ≡ needed l.commands
