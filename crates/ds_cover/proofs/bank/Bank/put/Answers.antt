use Rattle.std.proofs.Common.{◌≡◌, ◌∙◌, ◌<◌, ℕ, ap, sym, subst, length}
use Rattle.std.proofs.Math.ListN.{set}
use Rattle.ds_base.specs.declared.value.Value.{Value}
use Rattle.ds_cover.specs.Bank.{Driven, driven_at}
use Rattle.ds_cover.proofs.StoredTables.{table_of_quick}
use Rattle.ds_cover.proofs.bank.Bank.put.Goals as goal
use Rattle.ds_cover.proofs.bank.Bank.put.Goals.{After-index-2}

output : (c : After-index-2) → c.index-2.result ≡ (driven_at c.args.self.now c.args.table).output
output c =
    let table = table_of_quick c.self.invariant c.self.view_is c.requires.place c.index.result.now c.index.ensures in
    c.index-2.ensures ∙ (table.kept.drives ∙ sym (ap (λ (e : Driven). e.output) table.is))

pub bounds-nets-index : goal.bounds-nets-index
bounds-nets-index c =
    let there = output (goal.at.bounds-nets-index c).After-index-2 in
    subst (λ (n : ℕ). n < length c.args.nets.now) (sym there) c.requires.within.output

pub returns : goal.returns
returns c =
    let there = output (goal.at.returns c).After-index-2 in
    (ap (λ (n : ℕ). set c.args.nets.now n c.value_on-value.result) there
    ∙ ap (λ (v : Value). set c.args.nets.now (driven_at c.args.self.now c.args.table).output v) c.value_on-value.ensures)
