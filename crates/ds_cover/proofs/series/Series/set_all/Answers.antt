use Rattle.std.proofs.Common.{◌≡◌, ◌∙◌, List, ℕ, ap, sym, subst}
use Rattle.std.specs.Prelude.{All}
use Rattle.ds_cover.specs.Bank.{after_tables}
use Rattle.ds_cover.specs.Series.{IsRunOfTables, Ordered, in_table_order, numbers_of, shelves_of}
use Rattle.ds_cover.specs.declared.run.Run.{Run}
use Rattle.ds_cover.proofs.RemainingRuns.{runs_each, runs_numbers}
use Rattle.ds_cover.proofs.series.Series.set_all.Goals as goal

pub set_runs-requires-clause-runs : goal.set_runs-requires-clause-runs
set_runs-requires-clause-runs c = let (_, runs) = c.self.invariant in
    subst (λ (rs : List Run). All (IsRunOfTables (shelves_of c.self.inside.lists) (in_table_order c.self.inside.bank c.as_slice.result.now)) rs) (sym c.as_slice-runs.ensures.value)
    (subst (λ (ns : List ℕ). All (IsRunOfTables (shelves_of c.self.inside.lists) (in_table_order c.self.inside.bank ns)) c.self.inside.runs.items) (sym c.as_slice.ensures.value)
    (runs_each (shelves_of c.self.inside.lists) c.self.inside.bank c.self.inside.order.items 0 c.self.inside.runs.items runs))

pub returns : goal.returns
returns c = let (_, runs) = c.self.invariant in
    let numbers : numbers_of c.as_slice.result.now c.as_slice-runs.result.now ≡ c.self.inside.order.items =
    ap (λ (ns : List ℕ). numbers_of ns c.as_slice-runs.result.now) c.as_slice.ensures.value
    ∙ (ap (numbers_of c.self.inside.order.items) c.as_slice-runs.ensures.value
    ∙ runs_numbers (shelves_of c.self.inside.lists) c.self.inside.bank c.self.inside.order.items 0 c.self.inside.runs.items runs) in
    c.set_runs.ensures ∙ (ap (λ (ns : List ℕ). after_tables c.self.inside.bank c.args.nets.now ns) numbers
    ∙ ap (λ (s : Ordered). after_tables s.tables c.args.nets.now s.order) c.self.view_is)
