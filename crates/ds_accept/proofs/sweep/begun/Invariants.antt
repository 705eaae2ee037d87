use Rattle.std.proofs.Common.{◌≡◌, length}
use Rattle.ds_accept.specs.Masks.{AreBegun}
use Rattle.ds_accept.proofs.sweep.begun.Given as goal

abbrev pub invariant-loop-bit : goal.invariant-loop-bit
invariant-loop-bit l = record {
  size : length l.masks.items ≡ l.size;
  begun : AreBegun l.sources l.bit l.masks.items;
}
