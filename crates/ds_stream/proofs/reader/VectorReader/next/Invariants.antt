use Rattle.std.proofs.Common.{◌≡◌, ◌≢◌, ℕ, ◌+◌, ◌-◌, ◌≤◌, length, List}
use Rattle.ds_outside.specs.declared.files.Which.{Which}
use Rattle.ds_outside.specs.declared.files.Which.TheVariants.{Vectors}
use Rattle.ds_stream.proofs.Nexting.{SoFar}
use Rattle.ds_stream.proofs.reader.VectorReader.next.Given as goal

abbrev pub invariant-reading : goal.invariant-reading
invariant-reading g l = record {
  buffer : length l.piece ≡ 65536;
  same_held : g.F.Files.held l.files ≡ g.F.Files.held l.initial.files;
  same_faults : g.F.Files.faults l.files ≡ g.F.Files.faults l.initial.files;
  never_falls : (w : Which) (n : List ℕ) → g.F.Files.faults l.initial.files w n ≤ g.F.Files.faults l.files w n;
  other_kinds : (w : Which) (n : List ℕ) → w ≢ Vectors → g.F.Files.faults l.files w n ≡ g.F.Files.faults l.initial.files w n;
  width : l.filling.width ≡ l.fn.self.width;
  most : l.filling.most ≡ l.fn.self.most;
  sum : l.filling.seen + l.filling.missing ≡ l.fn.self.given + l.fn.count;
  seen : l.filling.seen ≡ l.fn.self.given + length l.filling.rows;
  bounds : l.filling.lines ≤ l.filling.place + l.filling.seen;
  so_far : SoFar (g.F.Files.held l.initial.files l.name) l.fn.self l.fn.count l.filling;
}

abbrev pub decreases-reading : goal.decreases-reading
decreases-reading g l = 281474976710657 - l.filling.place
