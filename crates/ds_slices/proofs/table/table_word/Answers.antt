use Rattle.ds_cover.specs.Bank.{driven_at}
use Rattle.ds_slices.proofs.PickedBits.{picked_value}
use Rattle.ds_slices.proofs.table.table_word.Goals as goal

pub returns-then-quick-clause-value : goal.returns-then-quick-clause-value
returns-then-quick-clause-value c =
    picked_value c.quick-quick.result.now (driven_at c.args.bank.now c.args.table).cover c.args.words.now c.quick_word.result
    (c.quick-quick.ensures.quick c.if-quick.true) c.quick_word.ensures
