use Rattle.std.proofs.Common.{◌≡◌, ◌+◌, ◌-◌, ◌≤◌, length, drop}
use Rattle.std.specs.List.{position_or_len}
use Rattle.ds_lines.specs.Draft.{ends_word}
use Rattle.ds_lines.proofs.line.word_len.Given as goal

abbrev pub invariant-reading : goal.invariant-reading
invariant-reading l = record {
  within : l.len ≤ length l.text;
  so_far : position_or_len ends_word l.text ≡ l.len + position_or_len ends_word (drop l.len l.text);
}

abbrev pub decreases-reading : goal.decreases-reading
decreases-reading l = length l.text - l.len
