use Rattle.std.proofs.Common.{◌≡◌, length}
use Rattle.std.specs.List.{AllWithin}
use Rattle.ds_fire.specs.Turn.{IsLoaded}
use Rattle.ds_fire.proofs.opening.load.Given as goal

abbrev pub invariant-loop-net : goal.invariant-loop-net
invariant-loop-net l = record {
  same : length l.nets ≡ length l.initial.nets;
  loaded : AllWithin (IsLoaded l.places l.rows l.homes l.nets) l.sources 0 l.net-index;
}
