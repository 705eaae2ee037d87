use Rattle.std.proofs.Common.{◌≡◌, drop}
use Rattle.ds_flat.specs.Copies.{unknown_formal}
use Rattle.ds_flat.proofs.library.unknown_formal.Given as goal

abbrev pub invariant-loop-pair : goal.invariant-loop-pair
invariant-loop-pair l = unknown_formal l.ports (drop l.pair-index l.pairs)
    ≡ unknown_formal l.ports l.pairs
