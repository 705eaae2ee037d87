use Rattle.std.proofs.Common.{◌∙◌, ◌<◌, ℕ, [], List, ap, arith, length, map, sym}
use Rattle.std.proofs.lemmas.List.{get_or-map, length-map}
use Rattle.ds_design.specs.Circuit.{Circuit}
use Rattle.ds_settle.specs.Cone.{nets_of_tables}
use Rattle.ds_opening.proofs.NetSlotLemmas.{assigned_more}
use Rattle.ds_opening.proofs.net_slots.assign_groups.Goals as goal

pub loop-a-preserved : goal.loop-a-preserved
loop-a-preserved c =
    let d : Circuit = c.args.design.now in
    let groups : List (List ℕ) = c.args.groups.now in
    let a : ℕ = c.loop-a.a in
    let inside : a < length groups = c.loop-a-test.true in
    assigned_more 0 (map (nets_of_tables d) groups) c.args.net_slots.now.items c.loop-a.net_slots.items c.assign_tables.new.net_slots.items
    a a (nets_of_tables d c.as_slice.result.now) c.loop-a.invariant (omega (inside, length-map groups (nets_of_tables d), arith)) (omega arith)
    (ap (nets_of_tables d) (c.as_slice.ensures ∙ c.index-groups-a.is) ∙ sym (get_or-map (nets_of_tables d) groups a c.index-groups-a.result [] inside))
    c.assign_tables.ensures
