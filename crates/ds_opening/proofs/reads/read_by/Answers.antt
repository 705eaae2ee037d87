use Rattle.std.proofs.Common.{◌≡◌, ◌∙◌, ◌⊎◌, ◌∷◌, ◌+◌, ◌-◌, ◌<◌, ◌≤◌, ◌^◌, [], ℕ, List, length, get_or, set, take, sym, ap, subst, arith}
use Rattle.std.specs.Prelude.{All}
use Rattle.std.proofs.lemmas.List.{length-set, take_all, take_more}
use Rattle.ds_base.proofs.ListLemmas.{get_or-default}
use Rattle.ds_design.specs.Circuit.{Circuit}
use Rattle.ds_design.specs.declared.design.Gate.{Gate}
use Rattle.ds_opening.specs.Seen.{AreAt, AreSeen, IsReadAt, IsReadBy}
use Rattle.ds_opening.proofs.Searched.{at_more, at_none, if_ok, inputs_low, on_ok, own_by, seen_own}
use Rattle.ds_opening.proofs.reads.read_by.Goals as goal

pub loop-table-init : goal.loop-table-init
loop-table-init c =
    let own : ℕ = c.args.own in
    let seen : List ℕ = c.args.seen.now.items in
    record {
      at = at_none c.args.assigned.now.design.now c.args.assigned.now.net_slots.items own c.new-list.result;
      seen = subst (λ (xs : List ℕ). AreSeen own (set seen own (own + 1)) xs) (sym c.new-list.ensures)
          (seen_own own seen c.requires.own c.requires.unseen);
      same = length-set seen own (own + 1);
    }

pub add_slots-requires-clause-nets : goal.add_slots-requires-clause-nets
add_slots-requires-clause-nets c =
    inputs_low c.args.assigned.now.design.now c.tables-gates.ensures.in_range c.tables-gates.result.now c.index-gates-table.result
    (get_or c.args.tables.now c.loop-table.table-index 0) c.inputs-inputs.result.now c.args.assigned.now.net_slots.items
    c.as_slice.result.now (c.requires.tables c.loop-table.table-index 0 c.loop-table-test.true) c.tables-gates.ensures.tables
    c.inputs-inputs.ensures c.requires.nets c.as_slice.ensures.value

pub add_slots-requires-clause-net_slots : goal.add_slots-requires-clause-net_slots
add_slots-requires-clause-net_slots c =
    subst (λ (xs : List ℕ). All (λ s. (s < length c.loop-table.seen.items) ⊎ (s ≡ 2 ^ 64 - 1)) xs) (sym c.as_slice.ensures.value)
    (subst (λ (n : ℕ). All (λ s. (s < n) ⊎ (s ≡ 2 ^ 64 - 1)) c.args.assigned.now.net_slots.items) (sym c.loop-table.invariant.same) c.requires.net_slots)

pub add_slots-requires-clause-own : goal.add_slots-requires-clause-own
add_slots-requires-clause-own c = omega (c.requires.own, c.loop-table.invariant.same, arith)

pub add_slots-requires-clause-seen : goal.add_slots-requires-clause-seen
add_slots-requires-clause-seen c = c.loop-table.invariant.seen

pub loop-table-preserved : goal.loop-table-preserved
loop-table-preserved c =
    let d : Circuit = c.args.assigned.now.design.now in
    let net_slots : List ℕ = c.args.assigned.now.net_slots.items in
    let own : ℕ = c.args.own in
    let tables : List ℕ = c.args.tables.now in
    let i : ℕ = c.loop-table.table-index in
    let table : ℕ = get_or tables i 0 in
    let inside : i < length tables = c.loop-table-test.true in
    let gate : Gate = get_or c.tables-gates.result.now table c.index-gates-table.result in
    let list : List ℕ = c.add_slots.new.list in
    let all : All (IsReadAt net_slots own list) gate.table.inputs =
    subst (λ (hs : List ℕ). All (IsReadAt hs own list) gate.table.inputs) c.as_slice.ensures.value
    (subst (λ (xs : List ℕ). All (IsReadAt c.as_slice.result.now own list) xs) c.inputs-inputs.ensures
    (c.in_ok-add_slots.ensures.all c.if-not-branch.false)) in
    let gate_at : (e : Gate) → gate ≡ get_or d.tables table e =
    λ e. ap (λ (ts : List Gate). get_or ts table c.index-gates-table.result) c.tables-gates.ensures.tables
    ∙ get_or-default d.tables table c.index-gates-table.result e (c.requires.tables i 0 inside) in
    record {
      at = subst (λ (xs : List ℕ). AreAt d net_slots own list xs) (sym (take_more tables i 0 inside))
          (at_more d net_slots own c.loop-table.list list (take i tables) table c.loop-table.invariant.at c.in_ok-add_slots.ensures.kept
          (λ e. subst (λ (g : Gate). All (IsReadAt net_slots own list) g.table.inputs) (gate_at e) all));
      seen = c.in_ok-add_slots.ensures.seen;
      same = c.in_ok-add_slots.ensures.same ∙ c.loop-table.invariant.same;
    }

pub returns-clause-ok : goal.returns-clause-ok
returns-clause-ok c =
    let tables : List ℕ = c.args.tables.now in
    record {
      within = subst (λ (n : ℕ). All (λ s. s < n) c.loop-table.list) c.loop-table.invariant.same c.loop-table.invariant.seen.within;
      each = λ free. subst (λ (xs : List ℕ). AreAt c.args.assigned.now.design.now c.args.assigned.now.net_slots.items c.args.own c.loop-table.list xs)
          (take_all c.loop-table.table-index tables c.loop-table-test.false) c.loop-table.invariant.at;
    }

pub returns-then-not-branch-clause-ok : goal.returns-then-not-branch-clause-ok
returns-then-not-branch-clause-ok c =
    let d : Circuit = c.args.assigned.now.design.now in
    let net_slots : List ℕ = c.args.assigned.now.net_slots.items in
    if_ok c.own_list.result (λ list. list ≡ c.args.own ∷ [])
    (IsReadBy d net_slots (length c.args.seen.now.items) c.args.own c.args.tables.now)
    (λ list is. own_by d net_slots (length c.args.seen.now.items) c.args.own c.args.tables.now list c.requires.own is)
    c.own_list.ensures.ok

pub returns-clause-same : goal.returns-clause-same
returns-clause-same c = c.loop-table.invariant.same

pub returns-clause-seen : goal.returns-clause-seen
returns-clause-seen c = c.loop-table.invariant.seen.low

pub returns-then-not-branch-clause-same : goal.returns-then-not-branch-clause-same
returns-then-not-branch-clause-same c =
    on_ok c.own_list.result (length c.add_slots.new.seen.items ≡ length c.args.seen.now.items)
    (c.in_ok-add_slots.ensures.same ∙ c.loop-table.invariant.same)

pub returns-then-not-branch-clause-seen : goal.returns-then-not-branch-clause-seen
returns-then-not-branch-clause-seen c =
    on_ok c.own_list.result (All (λ s. s ≤ c.args.own + 1) c.add_slots.new.seen.items) c.in_ok-add_slots.ensures.seen.low
