use Rattle.std.proofs.Common.{◌≡◌, ◌-◌, ◌≤◌, length, vec_len}
use Rattle.ds_outside.proofs.PiecewiseRead.{FrontSoFar}
use Rattle.ds_outside.proofs.files.read_whole.Given as goal

abbrev pub invariant-reading : goal.invariant-reading
invariant-reading g l = record {
  within : vec_len l.bytes ≤ l.most;
  buffer : length l.piece ≡ 65536;
  so_far : FrontSoFar (g.F.Files.held l.initial.files l.name) l.bytes.items;
  same_held : g.F.Files.held l.files ≡ g.F.Files.held l.initial.files;
  same_faults : g.F.Files.faults l.files ≡ g.F.Files.faults l.initial.files;
}

abbrev pub decreases-reading : goal.decreases-reading
decreases-reading g l = l.most - vec_len l.bytes
