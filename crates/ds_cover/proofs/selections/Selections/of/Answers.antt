use Rattle.std.proofs.Common.{◌≡◌, ◌∙◌, ◌+◌, ◌<◌, ◌++◌, [], ◌∷◌, List, ℕ, ap, arith, get_or, length, subst, sym}
use Rattle.std.specs.Prelude.{All}
use Rattle.std.proofs.lemmas.List.{get_or_default, take_all, take_more}
use Rattle.ds_cover.specs.Selections.{Selected}
use Rattle.ds_cover.specs.Series.{AreAdded, in_table_order, shelves_of}
use Rattle.ds_cover.specs.Small.{Shelved, no_shelf}
use Rattle.ds_cover.specs.declared.run.Run.{Run}
use Rattle.ds_cover.proofs.RunBounds.{AreListed, listed_more, listed_none}
use Rattle.ds_cover.proofs.selections.Selections.of.Goals as goal

pub add_list-requires-clause-places : goal.add_list-requires-clause-places
add_list-requires-clause-places c = c.loop-list.invariant.places

pub add_list-requires-clause-within : goal.add_list-requires-clause-within
add_list-requires-clause-within c =
    let item : c.as_slice.result.now ≡ get_or c.args.lists.now c.loop-list.list-index [] =
    c.as_slice.ensures ∙ (c.list-item.is ∙ get_or_default c.args.lists.now c.loop-list.list-index c.list-item.result [] c.loop-list-test.true) in
    subst (λ (xs : List ℕ). All (λ k. k < length c.args.bank.now) xs) (sym item) (c.requires c.loop-list.list-index [] c.loop-list-test.true)

pub loop-list-init : goal.loop-list-init
loop-list-init c =
    let bank = c.args.bank.now in
    let lists : List (List ℕ) = c.args.lists.now in
    subst (λ (ps : List Shelved). AreListed ps bank lists 0 c.new-order.result.items c.new-runs.result.items c.in_ok-bounds.bounds.items) (sym c.new-kinds.ensures)
    (subst (λ (ns : List ℕ). AreListed (no_shelf ∷ no_shelf ∷ no_shelf ∷ no_shelf ∷ no_shelf ∷ []) bank lists 0 ns c.new-runs.result.items c.in_ok-bounds.bounds.items) (sym c.new-order.ensures.items)
    (subst (λ (rs : List Run). AreListed (no_shelf ∷ no_shelf ∷ no_shelf ∷ no_shelf ∷ no_shelf ∷ []) bank lists 0 [] rs c.in_ok-bounds.bounds.items) (sym c.new-runs.ensures.items)
    (subst (λ (bs : List ℕ). AreListed (no_shelf ∷ no_shelf ∷ no_shelf ∷ no_shelf ∷ no_shelf ∷ []) bank lists 0 [] [] bs) (sym c.in_ok-bounds.ensures) (listed_none bank lists))))

pub loop-list-preserved : goal.loop-list-preserved
loop-list-preserved c =
    let lists : List (List ℕ) = c.args.lists.now in
    let i : ℕ = c.loop-list.list-index in
    let inside : i < length lists = c.loop-list-test.true in
    let bank = c.args.bank.now in
    let list : List ℕ = c.as_slice.result.now in
    let before : List ℕ = c.loop-list.order.items in
    let item : c.as_slice.result.now ≡ get_or lists i [] = c.as_slice.ensures ∙ (c.list-item.is ∙ get_or_default lists i c.list-item.result [] inside) in
    let order : c.add_list.new.order.items ≡ before ++ list = c.in_ok-add_list.ensures.ok_order in
    let added : AreAdded (shelves_of c.loop-list.kinds) (shelves_of c.add_list.new.kinds) (in_table_order bank (before ++ list)) (length before) c.loop-list.runs.items c.add_list.new.runs.items =
    subst (λ (ns : List ℕ). AreAdded (shelves_of c.loop-list.kinds) (shelves_of c.add_list.new.kinds) (in_table_order bank ns) (length before) c.loop-list.runs.items c.add_list.new.runs.items) order c.in_ok-add_list.ensures.ok_added in
    let within : All (λ k. k < length bank) list = subst (λ (xs : List ℕ). All (λ k. k < length bank) xs) (sym item) (c.requires i [] inside) in
    let end : c.len.result ≡ length c.add_list.new.runs.items = omega (c.len.ensures, c.add_list.new.runs.ok.0, arith) in
    subst (λ (ns : List ℕ). AreListed (shelves_of c.add_list.new.kinds) bank lists (i + 1) ns c.add_list.new.runs.items c.push.new.self.items) (sym order)
    (subst (λ (bs : List ℕ). AreListed (shelves_of c.add_list.new.kinds) bank lists (i + 1) (before ++ list) c.add_list.new.runs.items bs) (sym c.in_ok-push.ensures.items)
    (listed_more (shelves_of c.loop-list.kinds) (shelves_of c.add_list.new.kinds) bank lists i before list c.loop-list.runs.items c.add_list.new.runs.items c.loop-list.bounds.items
    c.loop-list.invariant within added c.len.result end item inside (take_more lists i [] inside)))

pub invariant_of-result : goal.invariant_of-result
invariant_of-result g = (g.loop-list.invariant.places, g.loop-list.invariant.bounded)

pub returns : goal.returns
returns c =
    let lists : List (List ℕ) = c.args.lists.now in
    let made : List (List ℕ) → Selected = λ ls. record { tables = c.args.bank.now; lists = ls } in
    record { ok = ap made (c.loop-list.invariant.listed ∙ take_all c.loop-list.list-index lists c.loop-list-test.false) }
