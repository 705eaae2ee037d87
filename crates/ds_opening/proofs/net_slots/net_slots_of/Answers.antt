use Rattle.std.proofs.Common.{◌≡◌, ◌∙◌, ◌<◌, ◌+◌, ◌-◌, ◌^◌, ℕ, List, ap, arith, length, map, replicate, subst, sym}
use Rattle.std.proofs.lemmas.List.{length-map}
use Rattle.ds_design.specs.Circuit.{Circuit}
use Rattle.ds_design.specs.declared.design.Net.{Net}
use Rattle.ds_settle.specs.Cone.{nets_of_tables}
use Rattle.ds_opening.specs.NetSlots.{AreNetsAssigned}
use Rattle.ds_opening.proofs.NetSlotLemmas.{are_net_slots}
use Rattle.ds_opening.proofs.net_slots.net_slots_of.Goals as goal

pub returns : goal.returns
returns c =
    let d : Circuit = c.args.design.now in
    let groups : List (List ℕ) = c.args.groups.now in
    let others : List (List ℕ) = c.args.others.now in
    let xs : List (List ℕ) = map (nets_of_tables d) groups in
    let size : length xs ≡ length groups = length-map groups (nets_of_tables d) in
    let few : length xs + length others < 2 ^ 64 = omega (size, arith) in
    let none : c.in_ok-net_slots.net_slots.items ≡ replicate {A = ℕ} (length c.nets.result.now) (2 ^ 64 - 1) =
    c.in_ok-net_slots.ensures.items_if_clones_equal (λ y e. e) in
    let nets : length c.nets.result.now ≡ length d.nets = ap (λ (ns : List Net). length ns) c.nets.ensures in
    record {
      ok = are_net_slots xs others few (length d.nets) c.in_ok-net_slots.net_slots.items c.assign_groups.new.net_slots.items c.assign_others.new.net_slots.items
          (none ∙ ap (λ (n : ℕ). replicate {A = ℕ} n (2 ^ 64 - 1)) nets) c.assign_groups.ensures
          (subst (λ (n : ℕ). AreNetsAssigned n others c.assign_groups.new.net_slots.items c.assign_others.new.net_slots.items) (sym size) c.assign_others.ensures);
    }
