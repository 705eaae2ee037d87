use Rattle.std.proofs.Common.{take}
use Rattle.ds_opening.specs.Members.{AreMembers}
use Rattle.ds_opening.proofs.members.members_of.Given as goal

abbrev pub invariant-loop-table : goal.invariant-loop-table
invariant-loop-table l =
    AreMembers (take l.table-index l.order) l.numbers.of.items l.numbers.count l.lists.items
