use Rattle.std.proofs.Common.{◌≡◌, length, take}
use Rattle.ds_settle.specs.Walk.{AreMet}
use Rattle.ds_settle.proofs.walk.meet_all.Given as goal

abbrev pub invariant-loop-net : goal.invariant-loop-net
invariant-loop-net l = record {
  same : length l.marks ≡ length l.initial.marks;
  met : AreMet l.drivers (take l.net-index l.these) l.initial.marks l.initial.found l.marks l.found;
}
