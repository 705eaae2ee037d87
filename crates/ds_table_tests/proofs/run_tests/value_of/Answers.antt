use Rattle.std.proofs.Common.{◌≡◌, ℕ, length, ap, arith}
use Rattle.ds_rule.specs.Run.{closing}
use Rattle.ds_rule.specs.Rule.{tickets}
use Rattle.ds_rule.proofs.EventLaws.{closing-is}
use Rattle.ds_table_tests.proofs.Holdings.{few_events}
use Rattle.ds_table_tests.proofs.run_tests.value_of.Goals as goal

pub count-requires : goal.count-requires
count-requires c = few_events c.args.from.now.shown.view.run c.new.result c.requires.run
    (omega (arith, c.new.ensures, c.requires.node))

pub row-requires-clause-stored : goal.row-requires-clause-stored
row-requires-clause-stored c =
    let e : c.new.result ≡ closing c.new-2.result =
    omega (arith, c.new.ensures, closing-is c.new-2.result, c.new-2.ensures) in
    let n : length (tickets c.args.from.now.shown.view c.new.result)
    ≡ length (tickets c.args.from.now.shown.view (closing c.new-2.result)) =
    ap (λ (x : ℕ). length (tickets c.args.from.now.shown.view x)) e in
    omega (arith, n, c.if-count-k.false, c.count.ensures)
