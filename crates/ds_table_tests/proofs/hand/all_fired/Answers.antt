use Rattle.ds_table_tests.proofs.TestTurnstile.{sum_of_three}
use Rattle.ds_table_tests.proofs.hand.all_fired.Goals as goal

pub returns : goal.returns
returns c = sum_of_three c.args.passes.now.items c.fired.result c.fired-2.result c.fired-3.result
    c.requires.long c.fired.ensures c.fired-2.ensures c.fired-3.ensures
