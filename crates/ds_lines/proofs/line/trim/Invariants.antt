use Rattle.std.proofs.Common.{◌≡◌, ◌+◌, ◌≤◌, false, length, take, drop}
use Rattle.std.specs.List.{suffix_len, list_any}
use Rattle.ds_lines.specs.Line.{is_end, is_backslash, words_of}
use Rattle.ds_lines.proofs.line.trim.Given as goal

abbrev pub invariant-trimming : goal.invariant-trimming
invariant-trimming l = record {
  within : l.kept ≤ length l.line;
  so_far : l.kept + suffix_len is_end l.line ≡ length l.line + suffix_len is_end
      (take l.kept l.line);
  joined : l.joined ≡ list_any is_backslash (drop l.kept l.line);
  words : l.joined ≡ false → words_of (take l.kept l.line) ≡ words_of l.line;
}

abbrev pub decreases-trimming : goal.decreases-trimming
decreases-trimming l = l.kept
