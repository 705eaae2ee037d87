use Rattle.std.proofs.Common.{◌<◌, length, take}
use Rattle.std.specs.Prelude.{All}
use Rattle.ds_opening.specs.Classes.{AreClasses}
use Rattle.ds_opening.proofs.classes.classes_of.Given as goal

abbrev pub invariant-loop-cone : goal.invariant-loop-cone
invariant-loop-cone l = record {
  are : AreClasses (take l.cone-index l.cones) l.tables l.classes.items;
  classes : All (λ n. n < length l.moved.items) l.classes.items;
  moved : All (λ n. n < length l.moved.items) l.moved.items;
  some : 0 < length l.moved.items;
}
