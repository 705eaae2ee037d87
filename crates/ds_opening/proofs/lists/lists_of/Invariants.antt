use Rattle.std.proofs.Common.{◌≡◌, ◌<◌, ◌+◌, length, take}
use Rattle.std.specs.Prelude.{All}
use Rattle.ds_opening.specs.Lists.{AreLists}
use Rattle.ds_opening.proofs.lists.lists_of.Given as goal

abbrev pub invariant-loop-i : goal.invariant-loop-i
invariant-loop-i l = record {
  are : AreLists (take l.i l.cones) l.numbers.of.items l.lists.items;
  long : length l.seen.items ≡ l.numbers.count;
  unseen : All (λ s. s < l.i + 1) l.seen.items;
}
