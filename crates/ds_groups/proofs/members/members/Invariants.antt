use Rattle.std.proofs.Common.{◌≡◌, map}
use Rattle.std.specs.List.{range_with_len}
use Rattle.ds_groups.specs.Members.{members_of}
use Rattle.ds_groups.proofs.members.members.Given as goal

abbrev pub invariant-loop-i : goal.invariant-loop-i
invariant-loop-i l = l.groups.items ≡ map (members_of l.holders l.i) (range_with_len 1 l.count)
