use Rattle.std.proofs.Common.{◌≡◌, ◌+◌, ◌-◌, ◌≤◌, ◌==◌, length, drop}
use Rattle.std.specs.List.{position_or_len}
use Rattle.ds_lines.proofs.line.place_of.Given as goal

abbrev pub invariant-finding : goal.invariant-finding
invariant-finding l = record {
  within : l.place ≤ length l.bytes;
  so_far : position_or_len (λ b. b == l.byte) l.bytes ≡ l.place + position_or_len (λ b. b == l.byte)
      (drop l.place l.bytes);
}

abbrev pub decreases-finding : goal.decreases-finding
decreases-finding l = length l.bytes - l.place
