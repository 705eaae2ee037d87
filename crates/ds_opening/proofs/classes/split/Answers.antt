use Rattle.std.proofs.Common.{◌≡◌, ◌∙◌, ◌<◌, ℕ, List, length, get_or, take, set, sym, subst, arith}
use Rattle.std.specs.Prelude.{All}
use Rattle.std.proofs.lemmas.List.{get_or_default, take_all, take_more}
use Rattle.ds_opening.specs.Classes.{AreSplit, IsMovedTo}
use Rattle.ds_opening.proofs.ListPrefix.{not_before}
use Rattle.ds_opening.proofs.Moves.{all_below, split_all, split_more}
use Rattle.ds_opening.proofs.classes.split.Goals as goal

pub loop-table-preserved : goal.loop-table-preserved
loop-table-preserved c =
    let tables : List ℕ = c.args.tables.now in
    let i : ℕ = c.loop-table.table-index in
    let table : ℕ = get_or tables i 0 in
    let old : List ℕ = c.args.classes.now.items in
    let first : ℕ = c.len-first.result in
    let size : first ≡ length c.args.moved.now.items = omega (c.len-first.ensures, c.args.moved.now.ok.0, arith) in
    let low : All (λ n. n < first) old =
    subst (λ (m : ℕ). All (λ n. n < m) old) (sym size) c.requires.classes in
    let some : 0 < first = subst (λ (m : ℕ). 0 < m) (sym size) c.requires.some in
    let near : table < length old = c.requires.tables i 0 c.loop-table-test.true in
    let long : length c.loop-table.classes.items ≡ length old = c.loop-table.invariant.one_each in
    let read : c.index.result.now ≡ get_or c.loop-table.classes.items table 0 =
    c.index.ensures ∙ get_or_default c.loop-table.classes.items table c.index.result.now 0 (omega (near, long, arith)) in
    subst (λ (xs : List ℕ). AreSplit first xs old (set c.loop-table.classes.items table c.in_ok-classes.field-0) c.moved_to.new.moved.items) (sym (take_more tables i 0 c.loop-table-test.true))
    (split_more first old low some (take i tables) c.loop-table.classes.items c.loop-table.moved.items c.moved_to.new.moved.items
    table c.in_ok-classes.field-0 c.loop-table.invariant
    (c.requires.tables i 0 c.loop-table-test.true)
    (not_before tables c.requires.once i c.loop-table-test.true)
    (subst (λ (n : ℕ). IsMovedTo first c.loop-table.moved.items n c.in_ok-classes.field-0 c.moved_to.new.moved.items) read c.in_ok-classes.ensures.ok))

pub returns-clause-ok : goal.returns-clause-ok
returns-clause-ok c =
    let tables : List ℕ = c.args.tables.now in
    let old : List ℕ = c.args.classes.now.items in
    let first : ℕ = c.len-first.result in
    let size : first ≡ length c.args.moved.now.items = omega (c.len-first.ensures, c.args.moved.now.ok.0, arith) in
    let low : All (λ n. n < first) old =
    subst (λ (m : ℕ). All (λ n. n < m) old) (sym size) c.requires.classes in
    let some : 0 < first = subst (λ (m : ℕ). 0 < m) (sym size) c.requires.some in
    let all : take c.loop-table.table-index tables ≡ tables = take_all c.loop-table.table-index tables (omega (c.loop-table-test.false, arith)) in
    split_all first old low some tables c.loop-table.classes.items c.loop-table.moved.items
    (subst (λ (xs : List ℕ). AreSplit first xs old c.loop-table.classes.items c.loop-table.moved.items) all c.loop-table.invariant)

pub returns-clause-classes : goal.returns-clause-classes
returns-clause-classes c =
    let old : List ℕ = c.args.classes.now.items in
    let first : ℕ = c.len-first.result in
    let size : first ≡ length c.args.moved.now.items = omega (c.len-first.ensures, c.args.moved.now.ok.0, arith) in
    let low : All (λ n. n < first) old =
    subst (λ (m : ℕ). All (λ n. n < m) old) (sym size) c.requires.classes in
    let some : 0 < first = subst (λ (m : ℕ). 0 < m) (sym size) c.requires.some in
    all_below first old low some (take c.loop-table.table-index c.args.tables.now) c.loop-table.classes.items c.loop-table.moved.items c.loop-table.invariant
