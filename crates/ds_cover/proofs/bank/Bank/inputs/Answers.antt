use Rattle.std.proofs.Common.{◌∙◌, ◌+◌, ◌≤◌, ℕ, List, ap, sym, subst, length, take, drop}
use Rattle.ds_cover.specs.Bank.{Driven}
use Rattle.ds_cover.proofs.StoredTables.{table_of_span}
use Rattle.ds_cover.proofs.bank.Bank.inputs.Goals as goal

pub inputs_of-requires : goal.inputs_of-requires
inputs_of-requires c =
    let table = table_of_span c.self.invariant c.self.view_is c.requires c.index.result.now c.index.ensures in
    subst (λ (ns : List ℕ). c.index.result.now.first_input + c.index.result.now.inputs ≤ length ns) (sym c.as_slice.ensures.value) table.kept.inputs_in

pub returns : goal.returns
returns c =
    let table = table_of_span c.self.invariant c.self.view_is c.requires c.index.result.now c.index.ensures in
    c.inputs_of.ensures ∙ (ap (λ (ns : List ℕ). take c.index.result.now.inputs (drop c.index.result.now.first_input ns)) c.as_slice.ensures.value ∙ sym (ap (λ (e : Driven). e.cover.inputs) table.is))
