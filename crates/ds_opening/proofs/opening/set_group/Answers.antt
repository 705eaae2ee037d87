use Rattle.std.proofs.Common.{◌≡◌, ◌∙◌, ℕ, Bool, List, false, inl, inr, length, refl, sym, ap, subst, true}
use Rattle.std.specs.Prelude.{All, Contains}
use Rattle.std.proofs.lemmas.List.{length-set}
use Rattle.ds_base.specs.Values.{Row}
use Rattle.ds_cover.specs.Bank.{Driven, AreNetsWithin, after_tables}
use Rattle.ds_cover.specs.Series.{FindsKnown, in_table_order}
use Rattle.ds_design.specs.Circuit.{Circuit}
use Rattle.ds_opening.specs.Groups.{Grouping, group_of}
use Rattle.ds_base.specs.Scratch.{Kept}
use Rattle.ds_settle.specs.Cone.{nets_of_tables}
use Rattle.ds_settle.proofs.BankedOrder.{all_within}
use Rattle.ds_opening.specs.Noted.{IsAsForeseen, KeepsGroup}
use Rattle.ds_opening.proofs.Learnt.{AreSet, after_long, all_set, now_noted}
use Rattle.ds_opening.proofs.UnchangedGroups.{group_held, group_foreseen}
use Rattle.ds_opening.proofs.opening.set_group.Goals as goal

pub put_group-requires-clause-within : goal.put_group-requires-clause-within
put_group-requires-clause-within c =
    subst (λ (r : Row). All (λ t. AreNetsWithin t r) c.args.groups.now.bank) (sym c.nets_mut.ensures.value)
    (all_within c.args.netlist.now c.design-design.ensures.in_range c.args.groups.now.bank c.requires.packed c.args.scratch.now.nets c.requires.nets)

pub put_group-requires-clause-known : goal.put_group-requires-clause-known
put_group-requires-clause-known c is =
    subst (λ (r : Row). FindsKnown (in_table_order c.args.groups.now.bank (group_of c.args.groups.now c.args.number)) r)
    (sym c.nets_mut.ensures.value) (c.requires.known is)

pub returns-then-keeps-clause-value : goal.returns-then-keeps-clause-value
returns-then-keeps-clause-value c m foreseen at was finds remembers =
    let old : Kept = c.args.scratch.now in
    let circuit : Circuit = c.args.netlist.now in
    let g : Grouping = c.args.groups.now in
    let number : ℕ = c.args.number in
    let these : List ℕ = nets_of_tables circuit (group_of g number) in
    let keeps : KeepsGroup g c.args.opening.now.turn number old = c.keeps.ensures c.if-keeps.true in
    let knows : (net : ℕ) → Contains these net → IsAsForeseen foreseen old.nets net =
    group_foreseen circuit g m c.args.opening.now.turn number foreseen at was old remembers keeps
    (c.requires.slots.slots number) c.requires.tables finds in
    now_noted m c.args.opening.now.turn number these foreseen at c.requires.turn old remembers old.nets refl
    (λ net which. elim which [ inl has ↦ knows net has | inr before ↦ before ]) (λ net free. refl)
    true (λ so later. group_held circuit g m c.args.opening.now.turn number foreseen at was old remembers keeps
    (c.requires.slots.slots number)) c.note.new.self c.note.ensures

pub returns-else-keeps-clause-value : goal.returns-else-keeps-clause-value
returns-else-keeps-clause-value c m foreseen at was finds remembers =
    let old : Kept = c.args.scratch.now in
    let circuit : Circuit = c.args.netlist.now in
    let tables : List ℕ = (group_of c.args.groups.now c.args.number) in
    let bank : List Driven = c.args.groups.now.bank in
    let nets : Row = c.put_group.new.nets in
    let nets_are : nets ≡ after_tables bank old.nets tables =
    c.put_group.ensures ∙ ap (λ (r : Row). after_tables bank r tables) c.nets_mut.ensures.value in
    let done : AreSet circuit foreseen c.design-design.ensures.in_range bank c.requires.packed tables old.nets nets =
    subst (λ (r : Row). AreSet circuit foreseen c.design-design.ensures.in_range bank c.requires.packed tables old.nets r) (sym nets_are)
    (all_set circuit foreseen c.design-design.ensures.in_range bank c.requires.packed tables old.nets c.requires.tables c.requires.nets finds) in
    now_noted m c.args.opening.now.turn c.args.number (nets_of_tables circuit tables) foreseen at c.requires.turn old remembers nets done.size done.learns done.others
    false (λ so later. absurd (cc)) c.note-else-keeps.new.self c.note-else-keeps.ensures

pub returns-else-keeps-clause-same : goal.returns-else-keeps-clause-same
returns-else-keeps-clause-same c =
    let old : Kept = c.args.scratch.now in
    let nets : Row = c.put_group.new.nets in
    let nets_are : nets ≡ after_tables c.args.groups.now.bank old.nets (group_of c.args.groups.now c.args.number) =
    c.put_group.ensures ∙ ap (λ (r : Row). after_tables c.args.groups.now.bank r (group_of c.args.groups.now c.args.number)) c.nets_mut.ensures.value in
    let note = c.note-else-keeps.ensures in
    record {
      nets = ap (λ (r : Row). length r) (note.nets ∙ nets_are)
          ∙ after_long c.args.groups.now.bank (group_of c.args.groups.now c.args.number) old.nets;
      turns = note.turns;
      stayed = ap (λ (bs : List Bool). length bs) note.stayed ∙ length-set old.stayed c.args.number false;
    }
