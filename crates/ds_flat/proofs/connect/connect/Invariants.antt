use Rattle.std.proofs.Common.{◌≡◌, take, drop}
use Rattle.ds_flat.specs.Copies.{bindings_in}
use Rattle.ds_flat.proofs.Connected.{nets_after}
use Rattle.ds_flat.proofs.connect.connect.Given as goal

abbrev pub invariant-loop-pair : goal.invariant-loop-pair
invariant-loop-pair l = record {
  copy : l.scope.copy ≡ l.copy;
  bound : l.scope.bound ≡ bindings_in l.caller (take l.pair-index l.pairs);
  nets : nets_after l.caller l.nets (drop l.pair-index l.pairs)
      ≡ nets_after l.caller l.fn.nets l.pairs;
}
