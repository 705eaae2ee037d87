use Rattle.std.proofs.Common.{◌≡◌, ◌≤◌, ◌+◌, ◌-◌, length}
use Rattle.std.specs.Prelude.{All}
use Rattle.ds_settle.specs.Walk.{AreFollowed, IsFound, IsMarked, unmarked}
use Rattle.ds_settle.proofs.walk.walk.Given as goal

abbrev pub invariant-tables : goal.invariant-tables
invariant-tables l = record {
  same : length l.marks ≡ length l.drivers.nets;
  is_found : IsFound l.drivers l.these l.marks l.found;
  met : All (IsMarked l.marks) l.these;
  followed : AreFollowed l.drivers l.marks l.found.tables l.i;
  low : l.i ≤ length l.found.tables;
}

abbrev pub decreases-tables : goal.decreases-tables
decreases-tables l = unmarked l.marks + length l.found.tables - l.i
