use Rattle.std.proofs.Common.{◌≡◌, [], drop}
use Rattle.ds_flat.specs.Interface.{with_ports_of}
use Rattle.ds_flat.proofs.library.ports_in.Given as goal

abbrev pub invariant-loop-command : goal.invariant-loop-command
invariant-loop-command l = with_ports_of l.ports (drop l.command-index l.commands)
    ≡ with_ports_of [] l.commands
