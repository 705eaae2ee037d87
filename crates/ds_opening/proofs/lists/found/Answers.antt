use Rattle.std.proofs.Common.{◌≡◌, ◌∙◌, ◌<◌, ◌+◌, ◌++◌, ◌∷◌, [], ℕ, List, length, get_or, take, set, sym, ap, subst, arith}
use Rattle.std.proofs.Common.{Vec, Global}
use Rattle.std.proofs.lemmas.List.{get_or_default, take_more}
use Rattle.ds_opening.specs.Lists.{AreFoundSoFar}
use Rattle.ds_opening.proofs.FoundTables.{found_new, found_old}
use Rattle.ds_opening.proofs.lists.found.Goals as goal
use Rattle.ds_opening.proofs.lists.found.Goals.{then-index-stamp+in_ok-push, else-index-stamp}

pub loop-table-preserved : goal.loop-table-preserved
loop-table-preserved c =
    let tables : List ℕ = c.args.tables.now in
    let i : ℕ = c.loop-table.table-index in
    let more : take (i + 1) tables ≡ take i tables ++ get_or tables i 0 ∷ [] = take_more tables i 0 c.loop-table-test.true in
    let long : length c.loop-table.seen.items ≡ length c.args.seen.now.items = c.loop-table.invariant.long in
    let inside : get_or tables i 0 < length c.args.of.now = c.requires.tables i 0 c.loop-table-test.true in
    let near : get_or c.args.of.now (get_or tables i 0) 0 < length c.args.seen.now.items = c.requires.below (get_or tables i 0) 0 inside in
    let low : get_or c.args.of.now (get_or tables i 0) 0 < length c.loop-table.seen.items = omega (near, long, arith) in
    let seen : List ℕ = c.loop-table.seen.items in
    let number : ℕ = get_or c.args.of.now (get_or tables i 0) 0 in
    let read : c.index.result.now ≡ get_or seen number 0 = c.index.ensures ∙ get_or_default seen number c.index.result.now 0 low in
    subst (λ (xs : List ℕ). AreFoundSoFar xs c.args.of.now c.args.seen.now.items c.args.stamp c.if-index-stamp.seen.items c.if-index-stamp.list) (sym more)
    (elim c.if-index-stamp.branch [
      | then-index-stamp+in_ok-push w ↦
          (let s : c.if-index-stamp.seen.items ≡ set seen number c.args.stamp = ap (λ (v : Vec ℕ Global). v.items) w.seen-is in
          let l : c.if-index-stamp.list ≡ c.loop-table.list ++ number ∷ [] = w.list-is ∙ w.in_ok-push.ensures.ok in
          subst (λ (xs : List ℕ). AreFoundSoFar (take i tables ++ get_or tables i 0 ∷ []) c.args.of.now c.args.seen.now.items c.args.stamp xs c.if-index-stamp.list) (sym s)
          (subst (λ (xs : List ℕ). AreFoundSoFar (take i tables ++ get_or tables i 0 ∷ []) c.args.of.now c.args.seen.now.items c.args.stamp (set seen number c.args.stamp) xs) (sym l)
          (found_new (take i tables) c.args.of.now c.args.seen.now.items c.args.stamp seen c.loop-table.list c.loop-table.invariant (get_or tables i 0) low
          (λ e. w.if-index-stamp.true (read ∙ e)))))
      | else-index-stamp w ↦
          (let s : c.if-index-stamp.seen.items ≡ seen = ap (λ (v : Vec ℕ Global). v.items) w.seen-is in
          subst (λ (xs : List ℕ). AreFoundSoFar (take i tables ++ get_or tables i 0 ∷ []) c.args.of.now c.args.seen.now.items c.args.stamp xs c.if-index-stamp.list) (sym s)
          (subst (λ (xs : List ℕ). AreFoundSoFar (take i tables ++ get_or tables i 0 ∷ []) c.args.of.now c.args.seen.now.items c.args.stamp seen xs) (sym w.list-is)
          (found_old (take i tables) c.args.of.now c.args.seen.now.items c.args.stamp seen c.loop-table.list c.loop-table.invariant (get_or tables i 0) low
          (sym read ∙ w.if-index-stamp.false))))
    ])
