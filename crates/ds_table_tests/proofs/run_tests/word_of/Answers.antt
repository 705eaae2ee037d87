use Rattle.std.proofs.Common.{◌<◌, arith, sym, subst}
use Rattle.ds_rule.specs.Run.{Run}
use Rattle.ds_rule.specs.Words.{width}
use Rattle.ds_table_tests.proofs.Holdings.{few_latches}
use Rattle.ds_table_tests.proofs.ToggleRun.{wide_one}
use Rattle.ds_table_tests.proofs.run_tests.word_of.Goals as goal

pub stored-requires : goal.stored-requires
stored-requires c = few_latches c.args.from.now.shown.view.run c.new-node.result c.requires.run
    (omega (arith, c.new-node.ensures, c.requires.node))

pub word-requires-clause-near : goal.word-requires-clause-near
word-requires-clause-near c = few_latches c.args.from.now.shown.view.run c.new-node.result
    c.requires.run (omega (arith, c.new-node.ensures, c.requires.node))

pub word-requires-clause-inside : goal.word-requires-clause-inside
word-requires-clause-inside c =
    subst (λ (run : Run). 0 < width run c.new-node.result) (sym c.requires.run)
    (omega (arith, wide_one c.new-node.result (omega (arith, c.new-node.ensures, c.requires.node))))
