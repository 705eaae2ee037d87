use Rattle.std.proofs.Common.{◌≡◌, ◌∙◌, ap, length}
use Rattle.ds_base.specs.Values.{Row}
use Rattle.ds_cover.specs.Bank.{after_tables}
use Rattle.ds_cover.proofs.LentRows.{length-after_tables, with-all}
use Rattle.ds_cover.proofs.bank.Bank.set_all.Goals as goal

pub returns : goal.returns
returns c =
    let is : c.put_all.new.nets ≡ after_tables c.args.self.now c.args.nets.now c.args.tables.now =
    c.put_all.ensures ∙ ap (λ (ns : Row). after_tables c.args.self.now ns c.args.tables.now) c.values_mut.ensures.value in
    with-all c.args.nets.now c.put_all.new.nets (ap length is ∙ length-after_tables c.args.self.now c.args.nets.now c.args.tables.now) ∙ is
