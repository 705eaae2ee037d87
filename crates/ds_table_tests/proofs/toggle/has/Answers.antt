use Rattle.std.proofs.Common.{arith}
use Rattle.ds_table_tests.proofs.Holdings.{few_events}
use Rattle.ds_table_tests.proofs.toggle.has.Goals as goal

pub count-count-requires : goal.count-count-requires
count-count-requires c =
    few_events c.args.from.now.shown.view.run c.new-event.result c.requires.run
    (omega (arith, c.new-event.ensures, c.requires.event))
