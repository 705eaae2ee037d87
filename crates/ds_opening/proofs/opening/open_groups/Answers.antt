use Rattle.std.proofs.Common.{◌≡◌, ◌∙◌, ◌<◌, ◌≤◌, ◌+◌, ◌++◌, List, ℕ, [], arith, length, ap, get_or, subst, sym}
use Rattle.std.specs.Prelude.{All, vec_capacity, vec_len}
use Rattle.ds_base.specs.Word.{count_of_words}
use Rattle.ds_base.specs.Values.{Row}
use Rattle.ds_cover.specs.Cover.{values_at}
use Rattle.ds_design.specs.Banked.{IsBankOf}
use Rattle.ds_design.specs.Circuit.{Circuit}
use Rattle.ds_latch.specs.Node.{IsNode, Split, nets_of, nodes, number_of}
use Rattle.ds_latch.specs.declared.node.Node.{Node}
use Rattle.ds_latch.proofs.OrderTokens.{number_below}
use Rattle.ds_split.proofs.NodeCones.{lent, nets_within}
use Rattle.ds_opening.specs.Groups.{Grouping, group_of}
use Rattle.ds_opening.specs.Noted.{AreRowsLearnt}
use Rattle.ds_opening.specs.Packed.{packed}
use Rattle.ds_opening.specs.TurnOfOpenings.{value_taken}
use Rattle.ds_opening.proofs.Noting.{find_known, grouped, has_reads, node_slots, numbers, reads, settled_is, value}
use Rattle.ds_opening.proofs.UnchangedGroups.{reads_on}
use Rattle.ds_opening.proofs.opening.open_groups.Goals as goal

-- the list of groups at the place of a cone
at_place : (g : Grouping) {place other : ℕ} → place ≡ other → get_or g.lists place [] ≡ get_or g.lists other []
at_place g is = ap (λ (k : ℕ). get_or g.lists k []) is

pub learn_rows-requires-clause-turn : goal.learn_rows-requires-clause-turn
learn_rows-requires-clause-turn c = let (n, t, m, o) = c.requires.settling in o.some

pub learn_rows-requires-clause-slots : goal.learn_rows-requires-clause-slots
learn_rows-requires-clause-slots c = let (n, t, m, o) = c.requires.settling in
    omega (o.memory.remembers.stayed, o.memory.remembers.turns, arith)

pub set_groups-requires-clause-slots : goal.set_groups-requires-clause-slots
set_groups-requires-clause-slots c = let (n, t, m, o) = c.requires.settling in
    reads_on c.args.groups.now c.args.scratch.now c.learn_rows.new.scratch c.learn_rows.ensures.same.turns
    c.learn_rows.ensures.same.stayed
    (has_reads c.requires.split c.requires.range c.bits-bits.result.now c.bits-bits.ensures.one_each c.bits-bits.ensures.nets c.requires.groups o)

pub set_groups-requires-clause-known : goal.set_groups-requires-clause-known
set_groups-requires-clause-known c is = let (n, t, m, o) = c.requires.settling in
    let rows : AreRowsLearnt m (t.nets t.opened) c.bits-bits.result.now (numbers c.requires.split c.requires.range c.bits-bits.result.now c.bits-bits.ensures.one_each c.bits-bits.ensures.nets c.requires.groups o) c.learn_rows.new.scratch =
    c.learn_rows.ensures.value m (t.nets t.opened)
    (numbers c.requires.split c.requires.range c.bits-bits.result.now c.bits-bits.ensures.one_each c.bits-bits.ensures.nets c.requires.groups o)
    (reads c.requires.split c.requires.range c.bits-bits.result.now c.bits-bits.ensures.one_each c.bits-bits.ensures.nets c.requires.groups o c.count.result c.count.ensures.value)
    (node_slots c.requires.split c.requires.range c.bits-bits.result.now c.bits-bits.ensures.one_each c.bits-bits.ensures.nets c.requires.groups o c.count.result c.count.ensures.value)
    o.memory.remembers in
    find_known c.requires.split c.requires.range c.bits-bits.result.now c.bits-bits.ensures.one_each c.bits-bits.ensures.nets c.requires.groups o
    c.learn_rows.new.scratch rows (o.known is) c.netlist.result.now c.netlist.ensures.netlist c.of_cone-list.result.now (c.of_cone-list.ensures ∙ at_place c.args.groups.now (c.cone_place.ensures n o.at.is))

pub set_groups-requires-clause-turn : goal.set_groups-requires-clause-turn
set_groups-requires-clause-turn c = let (n, t, m, o) = c.requires.settling in o.some

pub set_groups-requires-clause-packed : goal.set_groups-requires-clause-packed
set_groups-requires-clause-packed c =
    subst (λ (d : Circuit). IsBankOf d.tables c.args.groups.now.bank) (sym c.netlist.ensures.netlist) c.requires.groups.are.packed

pub set_groups-requires-clause-tables : goal.set_groups-requires-clause-tables
set_groups-requires-clause-tables c =
    subst (λ (d : Circuit). (a : ℕ) → All (λ k. k < length d.tables) (group_of c.args.groups.now a))
    (sym c.netlist.ensures.netlist) c.requires.groups.are.within

pub set_groups-requires-clause-nets : goal.set_groups-requires-clause-nets
set_groups-requires-clause-nets c = let (n, t, m, o) = c.requires.settling in
    c.learn_rows.ensures.same.nets ∙ (o.memory.remembers.nets ∙ (o.memory.nets
    ∙ ap (λ (d : Circuit). length d.nets) (sym c.netlist.ensures.netlist)))

pub learn_rows-requires-clause-few : goal.learn_rows-requires-clause-few
learn_rows-requires-clause-few c =
    (omega (c.count.ensures.few, arith), omega (c.bits-bits.ensures.one_each, c.edges-edges.ensures.few, arith))

pub learn_rows-requires-clause-read : goal.learn_rows-requires-clause-read
learn_rows-requires-clause-read c =
    let (n, t, m, o) = c.requires.settling in (
      t.nets t.opened,
      numbers c.requires.split c.requires.range c.bits-bits.result.now c.bits-bits.ensures.one_each c.bits-bits.ensures.nets c.requires.groups o,
      reads c.requires.split c.requires.range c.bits-bits.result.now c.bits-bits.ensures.one_each c.bits-bits.ensures.nets c.requires.groups o
          c.count.result c.count.ensures.value,
    )

pub set_groups-requires-clause-groups : goal.set_groups-requires-clause-groups
set_groups-requires-clause-groups c = let (n, t, m, o) = c.requires.settling in
    let h = grouped c.requires.split c.requires.range c.bits-bits.result.now c.bits-bits.ensures.one_each c.bits-bits.ensures.nets c.requires.groups o in
    subst (λ (xs : List ℕ). All (λ a. a < length c.args.groups.now.groups) xs) (sym (c.of_cone-list.ensures ∙ at_place c.args.groups.now (c.cone_place.ensures n o.at.is))) h.within

-- the nets of the node, as they are lent
these_are : (s : Split) (bits : List (List ℕ)) → length bits ≡ nodes s
    → ((n : Node) → IsNode s n → get_or bits (number_of n) [] ≡ nets_of s n)
    → (n : Node) → IsNode s n → (number : ℕ) → number_of n ≡ number
    → (item list : List ℕ) → list ≡ item → item ≡ get_or bits number item → list ≡ nets_of s n
these_are s bits one_each nets n is_node number is item list list_is item_is =
    let low : number_of n < nodes s = number_below s n is_node in
    lent bits (number_of n) number item list list_is item_is (sym is) (omega (low, one_each, arith)) ∙ nets n is_node

pub push_words-requires-clause-within : goal.push_words-requires-clause-within
push_words-requires-clause-within c = let (n, t, m, o) = c.requires.settling in
    let s : Split = c.args.latches.now in
    let these : c.as_slice.result.now ≡ nets_of s n =
    these_are s c.bits-bits.result.now c.bits-bits.ensures.one_each c.bits-bits.ensures.nets n o.at.node c.index.result (o.at.is ∙ sym c.index.ensures) c.index-bits-index.result c.as_slice.result.now c.as_slice.ensures c.index-bits-index.is in
    let size : length c.nets.result.now ≡ length s.circuit.nets =
    ap (λ (r : Row). length r) c.nets.ensures ∙ (c.set_groups.ensures.same.nets ∙ (c.learn_rows.ensures.same.nets ∙ (o.memory.remembers.nets ∙ o.memory.nets))) in
    subst (λ (xs : List ℕ). All (λ net. net < length c.nets.result.now) xs) (sym these)
    (subst (λ (k : ℕ). All (λ net. net < k) (nets_of s n)) (sym size) (nets_within s c.requires.split c.requires.range n o.at.node))

pub push_words-requires-clause-room : goal.push_words-requires-clause-room
push_words-requires-clause-room c = let (n, t, m, o) = c.requires.settling in
    let s : Split = c.args.latches.now in
    subst (λ (xs : List ℕ). vec_len c.args.into.now + count_of_words (length xs) ≤ vec_capacity c.args.into.now)
    (sym (these_are s c.bits-bits.result.now c.bits-bits.ensures.one_each c.bits-bits.ensures.nets n o.at.node c.index.result (o.at.is ∙ sym c.index.ensures) c.index-bits-index.result c.as_slice.result.now c.as_slice.ensures c.index-bits-index.is))
    (c.requires.room n o.at.node o.at.is)

pub returns-clause-room : goal.returns-clause-room
returns-clause-room c = c.push_words.ensures.room

pub returns-clause-value : goal.returns-clause-value
returns-clause-value c n t m o = let foreseen : Row = t.nets t.opened in
    let bits : List (List ℕ) = c.bits-bits.result.now in
    let producers : List ℕ = numbers c.requires.split c.requires.range c.bits-bits.result.now c.bits-bits.ensures.one_each c.bits-bits.ensures.nets c.requires.groups o in
    let rows : AreRowsLearnt m foreseen bits producers c.learn_rows.new.scratch =
    c.learn_rows.ensures.value m foreseen producers
    (reads c.requires.split c.requires.range c.bits-bits.result.now c.bits-bits.ensures.one_each c.bits-bits.ensures.nets c.requires.groups o c.count.result c.count.ensures.value)
    (node_slots c.requires.split c.requires.range c.bits-bits.result.now c.bits-bits.ensures.one_each c.bits-bits.ensures.nets c.requires.groups o c.count.result c.count.ensures.value)
    o.memory.remembers in
    let settled = settled_is c.requires.split c.requires.range c.bits-bits.result.now c.bits-bits.ensures.one_each c.bits-bits.ensures.nets c.requires.groups o
    c.learn_rows.new.scratch rows c.set_groups.new.scratch
    c.netlist.result.now c.netlist.ensures.netlist c.of_cone-list.result.now (c.of_cone-list.ensures ∙ at_place c.args.groups.now (c.cone_place.ensures n o.at.is)) (c.set_groups.ensures.value m foreseen) in
    let s : Split = c.args.latches.now in
    let these : c.as_slice.result.now ≡ nets_of s n =
    these_are s bits c.bits-bits.ensures.one_each c.bits-bits.ensures.nets n o.at.node c.index.result (o.at.is ∙ sym c.index.ensures) c.index-bits-index.result c.as_slice.result.now c.as_slice.ensures c.index-bits-index.is in
    let row : values_at c.set_groups.new.scratch.nets (nets_of s n) ≡ value_taken s t n =
    value c.requires.split c.requires.range c.bits-bits.result.now c.bits-bits.ensures.one_each c.bits-bits.ensures.nets c.requires.groups o
    c.learn_rows.new.scratch rows c.set_groups.new.scratch settled in
    c.push_words.ensures.value ∙ ap (λ (r : Row). c.args.into.now.items ++ packed r)
    (ap (λ (r : Row). values_at r c.as_slice.result.now) c.nets.ensures ∙ (ap (values_at c.set_groups.new.scratch.nets) these ∙ row))

pub returns-clause-remembers : goal.returns-clause-remembers
returns-clause-remembers c n t m o = let foreseen : Row = t.nets t.opened in
    let producers : List ℕ = numbers c.requires.split c.requires.range c.bits-bits.result.now c.bits-bits.ensures.one_each c.bits-bits.ensures.nets c.requires.groups o in
    let rows : AreRowsLearnt m foreseen c.bits-bits.result.now producers c.learn_rows.new.scratch =
    c.learn_rows.ensures.value m foreseen producers
    (reads c.requires.split c.requires.range c.bits-bits.result.now c.bits-bits.ensures.one_each c.bits-bits.ensures.nets c.requires.groups o c.count.result c.count.ensures.value)
    (node_slots c.requires.split c.requires.range c.bits-bits.result.now c.bits-bits.ensures.one_each c.bits-bits.ensures.nets c.requires.groups o c.count.result c.count.ensures.value)
    o.memory.remembers in
    (settled_is c.requires.split c.requires.range c.bits-bits.result.now c.bits-bits.ensures.one_each c.bits-bits.ensures.nets c.requires.groups o
    c.learn_rows.new.scratch rows c.set_groups.new.scratch
    c.netlist.result.now c.netlist.ensures.netlist c.of_cone-list.result.now (c.of_cone-list.ensures ∙ at_place c.args.groups.now (c.cone_place.ensures n o.at.is)) (c.set_groups.ensures.value m foreseen)).remembers
