use Rattle.std.proofs.Common.{◌≡◌, ◌+◌, ◌-◌, ◌≤◌, length, drop}
use Rattle.std.specs.List.{position_or_len}
use Rattle.ds_blif.specs.Form.{is_equals}
use Rattle.ds_blif.proofs.subckt.place_of_equals.Given as goal

abbrev pub invariant-finding : goal.invariant-finding
invariant-finding l = record {
  within : l.place ≤ length l.word;
  so_far : position_or_len is_equals l.word ≡ l.place + position_or_len is_equals
      (drop l.place l.word);
}

abbrev pub decreases-finding : goal.decreases-finding
decreases-finding l = length l.word - l.place
