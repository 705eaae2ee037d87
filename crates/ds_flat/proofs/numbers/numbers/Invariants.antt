use Rattle.std.proofs.Common.{◌≡◌, drop, length}
use Rattle.ds_flat.specs.Net.{numbered_names}
use Rattle.ds_flat.specs.Keys.{numbered_behind}
use Rattle.ds_flat.proofs.numbers.numbers.Given as goal

abbrev pub invariant-loop-k : goal.invariant-loop-k
invariant-loop-k l = record {
  so_far : numbered_behind l.numbers.items (numbered_names l.scope l.nets (drop l.k l.names))
      ≡ numbered_names l.scope l.fn.nets l.names;
  len : length l.numbers.items ≡ l.k;
}
