use Rattle.ds_table_tests.proofs.TestTurnstile.{held, firings}
use Rattle.ds_table_tests.proofs.hand.fired.Goals as goal

pub fired-requires : goal.fired-requires
fired-requires c = held c.args.fabric.now c.args.passes.now.items c.args.node c.new.result
    c.index.result.now c.requires.trio c.requires.node c.new.ensures c.index.ensures

pub returns : goal.returns
returns c = firings c.args.fabric.now c.args.passes.now.items c.args.node c.new.result
    c.fired.result c.index.result.now c.requires.trio c.requires.node c.new.ensures
    c.index.ensures c.fired.ensures.value
