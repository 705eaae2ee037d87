use Rattle.std.proofs.Common.{List, ap, length, sym, ℕ}
use Rattle.std.proofs.lemmas.Result.{IfOk-weaker}
use Rattle.ds_cover.specs.Bank.{driven_at}
use Rattle.ds_cover.proofs.lists.Lists.add_kind.Goals as goal

pub returns-then-inputs-le3 : goal.returns-then-inputs-le3
returns-then-inputs-le3 c = IfOk-weaker c.add_worded.result _ _
    (λ r added. added (driven_at c.args.bank.now c.args.table).cover.masks (driven_at c.args.bank.now c.args.table).cover.on
    (length (driven_at c.args.bank.now c.args.table).cover.inputs) c.args.at c.word.ensures (ap (λ (ns : List ℕ). length ns) (sym c.inputs-inputs.ensures))) c.add_worded.ensures

pub returns-else-inputs-le3 : goal.returns-else-inputs-le3
returns-else-inputs-le3 c = IfOk-weaker c.add_wide.result _ _
    (λ r added. added (driven_at c.args.bank.now c.args.table).cover.masks (driven_at c.args.bank.now c.args.table).cover.on
    (length (driven_at c.args.bank.now c.args.table).cover.inputs) (ap (λ (ns : List ℕ). length ns) (sym c.inputs-inputs.ensures))) c.add_wide.ensures
