use Rattle.std.proofs.Common.{◌≡◌, drop}
use Rattle.ds_demo.specs.Fold.{fold_after}
use Rattle.ds_demo.proofs.fold.Fold.add.Given as goal

abbrev pub invariant-loop-byte : goal.invariant-loop-byte
invariant-loop-byte l =
    fold_after (record { sum = l.self-inside.sum; place = l.self-inside.place })
    (drop l.byte-index l.bytes)
    ≡ fold_after (record { sum = l.fn.self.sum; place = l.fn.self.place }) l.bytes
