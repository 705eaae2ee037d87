use Rattle.std.proofs.Common.{drop, take}
use Rattle.ds_base.specs.Values.{Row}
use Rattle.ds_opening.specs.Groups.{tables_in}
use Rattle.ds_base.specs.Scratch.{Memory, Remembers}
use Rattle.ds_settle.specs.Cone.{nets_of_tables}
use Rattle.ds_opening.specs.Noted.{FindInputs, AreGroupSlots, AreGroupsBefore, IsAsForeseen, IsAsLong, IsLearnt}
use Rattle.ds_opening.proofs.opening.set_groups.Given as goal

abbrev pub invariant-loop-group : goal.invariant-loop-group
invariant-loop-group l = record {
  same : IsAsLong l.fn.scratch l.scratch;
  learnt : (m : Memory) (foreseen : Row) → AreGroupSlots l.netlist l.groups m l.opening.turn foreseen
      → AreGroupsBefore l.netlist l.groups m l.opening.turn
      → FindInputs l.netlist foreseen (IsAsForeseen foreseen l.fn.scratch.nets) (tables_in l.groups l.list)
      → Remembers m l.fn.scratch
      → IsLearnt m foreseen (nets_of_tables l.netlist (tables_in l.groups (take l.group-index l.list)))
      l.fn.scratch l.scratch;
  finds : (m : Memory) (foreseen : Row) → AreGroupSlots l.netlist l.groups m l.opening.turn foreseen
      → AreGroupsBefore l.netlist l.groups m l.opening.turn
      → FindInputs l.netlist foreseen (IsAsForeseen foreseen l.fn.scratch.nets) (tables_in l.groups l.list)
      → Remembers m l.fn.scratch
      → FindInputs l.netlist foreseen (IsAsForeseen foreseen l.scratch.nets)
      (tables_in l.groups (drop l.group-index l.list));
}
