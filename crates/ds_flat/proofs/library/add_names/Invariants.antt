use Rattle.std.proofs.Common.{◌≡◌, drop}
use Rattle.ds_flat.specs.Interface.{with_names}
use Rattle.ds_flat.proofs.library.add_names.Given as goal

abbrev pub invariant-loop-k : goal.invariant-loop-k
invariant-loop-k l = with_names l.ports (drop l.k l.names)
    ≡ with_names l.fn.ports l.names
