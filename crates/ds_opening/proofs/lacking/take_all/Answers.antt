use Rattle.std.proofs.Common.{◌≡◌, ◌∙◌, ◌<◌, ◌-◌, ◌++◌, ◌∷◌, [], ℕ, List, length, get_or, take, set, sym, subst, arith}
use Rattle.std.proofs.lemmas.List.{get_or_default, take_more}
use Rattle.ds_opening.specs.Lacking.{AreTaken}
use Rattle.ds_opening.proofs.ListPrefix.{not_before}
use Rattle.ds_opening.proofs.Lacks.{taken_more}
use Rattle.ds_opening.proofs.lacking.take_all.Goals as goal

pub loop-table-preserved : goal.loop-table-preserved
loop-table-preserved c =
    let list : List ℕ = c.args.tables.now in
    let i : ℕ = c.loop-table.table-index in
    let inside : i < length list = c.loop-table-test.true in
    let counts : List ℕ = c.loop-table.counts.items in
    let g : ℕ = get_or list i 0 in
    let near : g < length c.args.counts.now.items = c.requires.within i 0 inside in
    let long : length counts ≡ length c.args.counts.now.items = c.loop-table.invariant.one_each in
    let read : c.index_mut.result.now ≡ get_or counts g 0 =
    c.index_mut.ensures.value ∙ get_or_default counts g c.index_mut.result.now 0 (omega (near, long, arith)) in
    subst (λ (xs : List ℕ). AreTaken xs c.args.counts.now.items (set counts g (c.index_mut.result.now - 1))) (sym (take_more list i 0 inside))
    (subst (λ (n : ℕ). AreTaken (take i list ++ g ∷ []) c.args.counts.now.items (set counts g (n - 1))) (sym read)
    (taken_more (take i list) c.args.counts.now.items counts g c.loop-table.invariant
    (not_before list c.requires.once i inside) near (c.requires.some i 0 inside)))
