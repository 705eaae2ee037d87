use Rattle.std.proofs.Common.{◌≡◌, ◌∙◌, ◌≤◌, List, ℕ, length, ap, arith, sym, subst}
use Rattle.std.specs.Prelude.{All}
use Rattle.ds_cover.specs.Bank.{after_tables}
use Rattle.ds_cover.specs.Series.{FindsKnown, IsRunOfTables, in_table_order, numbers_of, shelves_of}
use Rattle.ds_cover.specs.Small.{part_of}
use Rattle.ds_cover.specs.declared.run.Run.{Run}
use Rattle.ds_cover.proofs.RunBounds.{bounds_inside, bounds_rise, count_is, each_part, finds_list, set_list}
use Rattle.ds_cover.proofs.selections.Selections.set_known.Goals as goal

pub index-requires : goal.index-requires
index-requires c = let (_, bounded) = c.self.invariant in
    let size = count_is (shelves_of c.self.inside.lists) c.self.inside.bank.now c.self.inside.order.items c.self.inside.runs.items c.self.inside.bounds.items bounded c.args.self.now c.self.view_is in
    omega (size, c.requires.number, c.self.inside.bounds.ok.0, arith)

pub overflow_add-number : goal.overflow_add-number
overflow_add-number c = let (_, bounded) = c.self.invariant in
    let size = count_is (shelves_of c.self.inside.lists) c.self.inside.bank.now c.self.inside.order.items c.self.inside.runs.items c.self.inside.bounds.items bounded c.args.self.now c.self.view_is in
    omega (size, c.requires.number, c.self.inside.bounds.ok.0, c.self.inside.bounds.ok.1, c.self.inside.bounds.small, arith)

pub index-requires-2 : goal.index-requires-2
index-requires-2 c = let (_, bounded) = c.self.invariant in
    let size = count_is (shelves_of c.self.inside.lists) c.self.inside.bank.now c.self.inside.order.items c.self.inside.runs.items c.self.inside.bounds.items bounded c.args.self.now c.self.view_is in
    omega (size, c.requires.number, c.self.inside.bounds.ok.0, arith)

pub between-runs-requires-clause-low : goal.between-runs-requires-clause-low
between-runs-requires-clause-low c = let (_, bounded) = c.self.invariant in
    bounds_rise (shelves_of c.self.inside.lists) c.self.inside.bank.now c.self.inside.order.items c.self.inside.runs.items c.self.inside.bounds.items bounded c.args.self.now c.self.view_is
    c.args.number c.index.result.now c.index-2.result.now c.requires.number c.index.ensures c.index-2.ensures

pub between-runs-requires-clause-inside : goal.between-runs-requires-clause-inside
between-runs-requires-clause-inside c = let (_, bounded) = c.self.invariant in
    let low : c.index-2.result.now ≤ length c.self.inside.runs.items =
    bounds_inside (shelves_of c.self.inside.lists) c.self.inside.bank.now c.self.inside.order.items c.self.inside.runs.items c.self.inside.bounds.items bounded c.args.self.now c.self.view_is
    c.args.number c.index.result.now c.index-2.result.now c.requires.number c.index.ensures c.index-2.ensures in
    let size : length c.as_slice.result.now ≡ length c.self.inside.runs.items = ap (λ (rs : List Run). length rs) c.as_slice.ensures.value in
    omega (low, size, arith)

pub set_known_runs-requires-clause-runs : goal.set_known_runs-requires-clause-runs
set_known_runs-requires-clause-runs c = let (_, bounded) = c.self.invariant in
    let part : c.between-runs.result.now ≡ part_of c.index.result.now c.index-2.result.now c.self.inside.runs.items =
    c.between-runs.ensures ∙ ap (part_of c.index.result.now c.index-2.result.now) c.as_slice.ensures.value in
    subst (λ (ns : List ℕ). All (IsRunOfTables (shelves_of c.self.inside.lists) (in_table_order c.self.inside.bank.now ns)) c.between-runs.result.now) (sym c.as_slice-2.ensures.value)
    (each_part (shelves_of c.self.inside.lists) c.self.inside.bank.now c.self.inside.order.items c.self.inside.runs.items c.self.inside.bounds.items bounded c.args.self.now c.self.view_is
    c.args.number c.index.result.now c.index-2.result.now c.requires.number c.index.ensures c.index-2.ensures c.between-runs.result.now part)

pub set_known_runs-requires-clause-known : goal.set_known_runs-requires-clause-known
set_known_runs-requires-clause-known c = let (_, bounded) = c.self.invariant in
    let part : c.between-runs.result.now ≡ part_of c.index.result.now c.index-2.result.now c.self.inside.runs.items =
    c.between-runs.ensures ∙ ap (part_of c.index.result.now c.index-2.result.now) c.as_slice.ensures.value in
    subst (λ (ns : List ℕ). FindsKnown (in_table_order c.self.inside.bank.now (numbers_of ns c.between-runs.result.now)) c.args.nets.now) (sym c.as_slice-2.ensures.value)
    (finds_list (shelves_of c.self.inside.lists) c.self.inside.bank.now c.self.inside.order.items c.self.inside.runs.items c.self.inside.bounds.items bounded c.args.self.now c.self.view_is
    c.args.number c.index.result.now c.index-2.result.now c.requires.number c.index.ensures c.index-2.ensures c.between-runs.result.now c.args.nets.now part c.requires.known)

pub returns : goal.returns
returns c = let (_, bounded) = c.self.invariant in
    let part : c.between-runs.result.now ≡ part_of c.index.result.now c.index-2.result.now c.self.inside.runs.items =
    c.between-runs.ensures ∙ ap (part_of c.index.result.now c.index-2.result.now) c.as_slice.ensures.value in
    set_list (shelves_of c.self.inside.lists) c.self.inside.bank.now c.self.inside.order.items c.self.inside.runs.items c.self.inside.bounds.items bounded c.args.self.now c.self.view_is
    c.args.number c.index.result.now c.index-2.result.now c.requires.number c.index.ensures c.index-2.ensures c.between-runs.result.now c.args.nets.now c.set_known_runs.new.nets part
    (c.set_known_runs.ensures ∙ ap (λ (ns : List ℕ). after_tables c.self.inside.bank.now c.args.nets.now (numbers_of ns c.between-runs.result.now)) c.as_slice-2.ensures.value)
