use Rattle.std.proofs.Common.{◌∙◌, ◌<◌, ℕ, List, length, get_or}
use Rattle.ds_base.specs.Values.{Row}
use Rattle.ds_design.specs.Circuit.{Circuit}
use Rattle.ds_opening.specs.Groups.{Grouping, group_of, tables_in}
use Rattle.ds_base.specs.Scratch.{Kept, Memory, Remembers}
use Rattle.ds_settle.specs.Cone.{nets_of_tables}
use Rattle.ds_opening.specs.Noted.{FindInputs, FindKnown, AreGroupSlots, AreGroupsBefore, IsAsForeseen, IsLearnt}
use Rattle.ds_opening.proofs.Learnt.{all_found, groups_more, rest_finds}
use Rattle.ds_opening.proofs.UnchangedGroups.{reads_on}
use Rattle.ds_opening.proofs.opening.set_groups.Goals as goal

pub set_group-requires-clause-slots : goal.set_group-requires-clause-slots
set_group-requires-clause-slots c =
    reads_on c.args.groups.now c.args.scratch.now c.loop-group.scratch c.loop-group.invariant.same.turns
    c.loop-group.invariant.same.stayed c.requires.slots

pub set_group-requires-clause-known : goal.set_group-requires-clause-known
set_group-requires-clause-known c is =
    let circuit : Circuit = c.args.netlist.now in
    let g : Grouping = c.args.groups.now in
    let list : List ℕ = c.args.list.now in
    let i : ℕ = c.loop-group.group-index in
    let f : FindKnown circuit g c.args.opening.now.turn list c.args.scratch.now = c.requires.known is in
    let here : FindInputs circuit f.foreseen (IsAsForeseen f.foreseen c.loop-group.scratch.nets) (group_of g (get_or list i 0)) =
    (rest_finds circuit g list i c.loop-group-test.true f.foreseen c.loop-group.scratch.nets
    (c.loop-group.invariant.finds f.memory f.foreseen f.slots f.before f.finds f.remembers)).0 in
    all_found circuit f.foreseen c.design-design.ensures.in_range g.bank c.requires.packed (group_of g (get_or list i 0)) c.loop-group.scratch.nets
    f.sure (c.requires.tables (get_or list i 0)) (c.loop-group.invariant.same.nets ∙ c.requires.nets) here

pub loop-group-preserved : goal.loop-group-preserved
loop-group-preserved c =
    let circuit : Circuit = c.args.netlist.now in
    let g : Grouping = c.args.groups.now in
    let list : List ℕ = c.args.list.now in
    let i : ℕ = c.loop-group.group-index in
    let a : ℕ = get_or list i 0 in
    let inside : i < length list = c.loop-group-test.true in
    let old : Kept = c.args.scratch.now in
    let mid : Kept = c.loop-group.scratch in
    let new : Kept = c.set_group.new.scratch in
    let one : (m : Memory) (foreseen : Row) → AreGroupSlots circuit g m c.args.opening.now.turn foreseen
    → AreGroupsBefore circuit g m c.args.opening.now.turn
    → FindInputs circuit foreseen (IsAsForeseen foreseen old.nets) (tables_in g list) → Remembers m old
    → IsLearnt m foreseen (nets_of_tables circuit (group_of g a)) mid new =
    λ m foreseen slots was finds remembers.
    c.set_group.ensures.value m foreseen (slots a (c.requires.groups i 0 inside)) (was a (c.requires.groups i 0 inside))
    (rest_finds circuit g list i inside foreseen mid.nets (c.loop-group.invariant.finds m foreseen slots was finds remembers)).0
    (c.loop-group.invariant.learnt m foreseen slots was finds remembers).remembers in
    record {
      same = record {
        nets = c.set_group.ensures.same.nets ∙ c.loop-group.invariant.same.nets;
        turns = c.set_group.ensures.same.turns ∙ c.loop-group.invariant.same.turns;
        stayed = c.set_group.ensures.same.stayed ∙ c.loop-group.invariant.same.stayed;
      };
      learnt = λ m foreseen slots was finds remembers.
          groups_more circuit g list i inside m foreseen old mid new
          (c.loop-group.invariant.learnt m foreseen slots was finds remembers) (one m foreseen slots was finds remembers);
      finds = λ m foreseen slots was finds remembers.
          (rest_finds circuit g list i inside foreseen mid.nets (c.loop-group.invariant.finds m foreseen slots was finds remembers)).1 new.nets
          (one m foreseen slots was finds remembers).learns;
    }
