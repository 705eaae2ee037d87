use Rattle.std.proofs.Common.{◌≡◌, ◌≤◌, ◌∙◌, ◌<◌, ℕ, List, length, arith, sym, ap, subst}
use Rattle.std.specs.Prelude.{All, Contains}
use Rattle.ds_design.specs.Circuit.{Circuit}
use Rattle.ds_design.specs.InRange.{IsInRange}
use Rattle.ds_design.specs.Levels.{IsTableOrder}
use Rattle.ds_design.specs.declared.design.Gate.{Gate}
use Rattle.ds_cover.specs.Selections.{Selected}
use Rattle.ds_settle.specs.Cone.{Parts as Cone}
use Rattle.ds_opening.specs.Classes.{AreClasses, HasTables}
use Rattle.ds_opening.specs.Groups.{AreGroupsOf}
use Rattle.ds_opening.specs.Lacking.{AreByLacking}
use Rattle.ds_opening.specs.Lists.{AreLists}
use Rattle.ds_opening.specs.Scheduled.{AreGroupMembers}
use Rattle.ds_opening.specs.Reads.{AreReads}
use Rattle.ds_opening.specs.Seen.{AreReadsOf}
use Rattle.ds_opening.proofs.GroupedCones.{are_groups, few_order, have_tables, members_within}
use Rattle.ds_opening.proofs.table_groups.TableGroups.of.Goals as goal

pub numbers_of-requires-clause-cones : goal.numbers_of-requires-clause-cones
numbers_of-requires-clause-cones c =
    let size : length c.tables-tables.result.now ≡ length c.args.netlist.now.tables =
    ap (λ (ts : List Gate). length ts) c.tables-tables.ensures.tables ∙ ap (λ (d : Circuit). length d.tables) c.design-design.ensures.design in
    subst (λ (cs : List Cone). All (HasTables (length c.tables-tables.result.now)) cs) (sym c.as_slice.ensures.value)
    (subst (λ (n : ℕ). All (HasTables n) c.args.cones.items) (sym size) (have_tables c.args.netlist.now c.args.cones.items c.requires.cones))

pub numbers_of-requires-clause-order : goal.numbers_of-requires-clause-order
numbers_of-requires-clause-order c =
    let size : length c.tables-tables.result.now ≡ length c.args.netlist.now.tables =
    ap (λ (ts : List Gate). length ts) c.tables-tables.ensures.tables ∙ ap (λ (d : Circuit). length d.tables) c.design-design.ensures.design in
    subst (λ (n : ℕ). All (λ k. k < n) c.order-order.result.now) (sym size) c.order-order.ensures.places

pub numbers_of-requires-clause-all : goal.numbers_of-requires-clause-all
numbers_of-requires-clause-all c =
    let size : length c.tables-tables.result.now ≡ length c.args.netlist.now.tables =
    ap (λ (ts : List Gate). length ts) c.tables-tables.ensures.tables ∙ ap (λ (d : Circuit). length d.tables) c.design-design.ensures.design in
    subst (λ (n : ℕ). (k : ℕ) → k < n → Contains c.order-order.result.now k) (sym size) c.order-order.ensures.all

pub numbers_of-requires-clause-few : goal.numbers_of-requires-clause-few
numbers_of-requires-clause-few c =
    let few : length c.order-order.result.now ≤ length c.args.netlist.now.tables =
    few_order (length c.args.netlist.now.tables) c.order-order.result.now c.order-order.ensures.places c.order-order.ensures.once in
    omega (few, c.design-design.ensures.in_range.few_tables, arith)

pub lists_of-requires-clause-tables : goal.lists_of-requires-clause-tables
lists_of-requires-clause-tables c =
    let size : length c.tables-tables.result.now ≡ length c.args.netlist.now.tables =
    ap (λ (ts : List Gate). length ts) c.tables-tables.ensures.tables ∙ ap (λ (d : Circuit). length d.tables) c.design-design.ensures.design in
    let long : length c.in_ok-numbers.numbers.of.items ≡ length c.tables-tables.result.now = c.in_ok-numbers.ensures.ok.one_each in
    subst (λ (cs : List Cone). All (HasTables (length c.in_ok-numbers.numbers.of.items)) cs) (sym c.as_slice-2.ensures.value)
    (subst (λ (n : ℕ). All (HasTables n) c.args.cones.items) (sym (long ∙ size)) (have_tables c.args.netlist.now c.args.cones.items c.requires.cones))

pub lists_of-requires-clause-below : goal.lists_of-requires-clause-below
lists_of-requires-clause-below c = c.in_ok-numbers.ensures.below

pub scheduled_members-requires-clause-long : goal.scheduled_members-requires-clause-long
scheduled_members-requires-clause-long c =
    let size : length c.tables-tables.result.now ≡ length c.args.netlist.now.tables =
    ap (λ (ts : List Gate). length ts) c.tables-tables.ensures.tables ∙ ap (λ (d : Circuit). length d.tables) c.design-design.ensures.design in
    c.in_ok-numbers.ensures.ok.one_each ∙ size

pub scheduled_members-requires-clause-below : goal.scheduled_members-requires-clause-below
scheduled_members-requires-clause-below c = c.in_ok-numbers.ensures.below

pub reads_of-requires-clause-in_range : goal.reads_of-requires-clause-in_range
reads_of-requires-clause-in_range c =
    subst (λ (d : Circuit). IsInRange d) (sym c.design-design.ensures.design) c.design-design.ensures.in_range

pub reads_of-requires-clause-others : goal.reads_of-requires-clause-others
reads_of-requires-clause-others c =
    subst (λ (d : Circuit). All (λ these. All (λ net. net < length d.nets) these) c.args.others.now)
    (sym c.design-design.ensures.design) c.requires.others

-- what members are asked to be
members_low : (d : Circuit) (numbers : List ℕ) (count : ℕ) (groups items : List (List ℕ))
    → items ≡ groups → AreGroupMembers d numbers count groups → All (λ these. All (λ k. k < length d.tables) these) items
members_low d numbers count groups items same are =
    subst (λ (xs : List (List ℕ)). All (λ these. All (λ k. k < length d.tables) these) xs) (sym same)
    (members_within d are.order are.scheduled.places numbers count groups are.members)

pub reads_of-requires-clause-groups : goal.reads_of-requires-clause-groups
reads_of-requires-clause-groups c =
    subst (λ (d : Circuit). All (λ these. All (λ k. k < length d.tables) these) c.as_slice-3.result.now) (sym c.design-design.ensures.design)
    (members_low c.args.netlist.now c.in_ok-numbers.numbers.of.items c.in_ok-numbers.numbers.count
    c.in_ok-groups.groups.items c.as_slice-3.result.now c.as_slice-3.ensures.value c.in_ok-groups.ensures.ok)

pub of-requires : goal.of-requires
of-requires c =
    subst (λ (n : ℕ). All (λ these. All (λ k. k < n) these) c.as_slice-4.result.now) (sym c.bank.ensures.one_each)
    (members_low c.args.netlist.now c.in_ok-numbers.numbers.of.items c.in_ok-numbers.numbers.count
    c.in_ok-groups.groups.items c.as_slice-4.result.now c.as_slice-4.ensures.value c.in_ok-groups.ensures.ok)

pub returns : goal.returns
returns c =
    let size : length c.tables-tables.result.now ≡ length c.args.netlist.now.tables =
    ap (λ (ts : List Gate). length ts) c.tables-tables.ensures.tables ∙ ap (λ (d : Circuit). length d.tables) c.design-design.ensures.design in
    let cones : List Cone = c.args.cones.items in
    let numbers : List ℕ = c.in_ok-numbers.numbers.of.items in
    let classes : AreClasses cones (length c.args.netlist.now.tables) numbers =
    subst (λ (n : ℕ). AreClasses cones n numbers) size
    (subst (λ (cs : List Cone). AreClasses cs (length c.tables-tables.result.now) numbers) c.as_slice.ensures.value c.in_ok-numbers.ensures.ok) in
    let rises : AreByLacking cones numbers = subst (λ (cs : List Cone). AreByLacking cs numbers) c.as_slice.ensures.value c.in_ok-numbers.ensures.rising in
    let lists : AreLists cones numbers c.in_ok-lists.lists.items =
    subst (λ (cs : List Cone). AreLists cs numbers c.in_ok-lists.lists.items) c.as_slice-2.ensures.value c.in_ok-lists.ensures.ok in
    let groups : List (List ℕ) = c.in_ok-groups.groups.items in
    let reads : List (List ℕ) = c.in_ok-reads.reads.items in
    let selected : c.in_ok-selections.selections ≡ record { tables = c.bank.result.now; lists = groups } =
    c.in_ok-selections.ensures.ok ∙ ap (λ (xs : List (List ℕ)). record { tables = c.bank.result.now; lists = xs }) c.as_slice-4.ensures.value in
    let read : AreReadsOf c.args.netlist.now c.args.others.now groups reads =
    subst (λ (d : Circuit). AreReadsOf d c.args.others.now groups reads) c.design-design.ensures.design
    (subst (λ (xs : List (List ℕ)). AreReadsOf c.design-design.result.now c.args.others.now xs reads) c.as_slice-3.ensures.value c.in_ok-reads.ensures.ok) in
    record {
      ok = subst (λ (s : Selected). AreGroupsOf c.args.netlist.now cones (record { bank = s.tables; groups = s.lists; lists = c.in_ok-lists.lists.items; reads = reads }))
          (sym selected) (are_groups c.args.netlist.now c.order-order.result.now c.order-order.ensures cones c.requires.cones
          numbers c.in_ok-numbers.numbers.count classes c.in_ok-numbers.ensures.below
          c.in_ok-groups.ensures.ok.order c.in_ok-groups.ensures.ok.scheduled groups c.in_ok-groups.ensures.ok.members c.in_ok-lists.lists.items lists rises
          c.bank.result.now c.bank.ensures reads);
      reads = subst (λ (s : Selected). AreReads c.args.netlist.now c.args.others.now (record { bank = s.tables; groups = s.lists; lists = c.in_ok-lists.lists.items; reads = reads }))
          (sym selected) (read c.bank.result.now c.in_ok-lists.lists.items);
    }
