use Rattle.std.proofs.Common.{◌≡◌, ◌∙◌, ◌<◌, ◌++◌, ◌∷◌, [], ℕ, List, length, get_or, set, take, ap, subst, sym, arith}
use Rattle.std.proofs.lemmas.List.{take_all, take_more}
use Rattle.ds_base.proofs.ListLemmas.{get_or-default}
use Rattle.ds_opening.specs.Members.{AreMembers}
use Rattle.ds_opening.proofs.GatheredTables.{gathered_more, gathered_none}
use Rattle.ds_opening.proofs.members.members_of.Goals as goal

pub loop-table-init : goal.loop-table-init
loop-table-init c =
    subst (λ (xs : List (List ℕ)). AreMembers [] c.args.numbers.now.of.items c.args.numbers.now.count xs)
    (sym c.in_ok-lists.ensures.ok) (gathered_none c.args.numbers.now.of.items c.args.numbers.now.count)

pub loop-table-preserved : goal.loop-table-preserved
loop-table-preserved c =
    let order : List ℕ = c.args.order.now in
    let numbers : List ℕ = c.args.numbers.now.of.items in
    let count : ℕ = c.args.numbers.now.count in
    let lists : List (List ℕ) = c.loop-table.lists.items in
    let i : ℕ = c.loop-table.table-index in
    let table : ℕ = get_or order i 0 in
    let number : ℕ = c.index.result.now in
    let near : table < length numbers = c.requires.within i 0 c.loop-table-test.true in
    let low : number < count =
    subst (λ (n : ℕ). n < count) (sym c.index.ensures) (c.requires.below table number near) in
    let is : c.push.new.self ≡ get_or lists number [] ++ table ∷ [] =
    c.in_ok-push.ensures.ok ∙ ap (λ (xs : List ℕ). xs ++ table ∷ []) (c.index_mut.ensures.value
    ∙ get_or-default lists number c.index_mut.result.now [] (omega (low, c.loop-table.invariant.one_each, arith))) in
    subst (λ (xs : List ℕ). AreMembers xs numbers count (set lists number c.push.new.self))
    (sym (take_more order i 0 c.loop-table-test.true))
    (gathered_more (take i order) numbers count lists table number c.push.new.self c.loop-table.invariant low
    (sym (c.index.ensures ∙ get_or-default numbers table number 0 near)) is)

pub returns : goal.returns
returns c = record {
  ok = subst (λ (xs : List ℕ). AreMembers xs c.args.numbers.now.of.items c.args.numbers.now.count c.loop-table.lists.items)
      (take_all c.loop-table.table-index c.args.order.now c.loop-table-test.false) c.loop-table.invariant;
}
