use Rattle.std.proofs.Common.{sym}
use Rattle.ds_table_tests.proofs.TrioRun.{zero_first}
use Rattle.ds_table_tests.proofs.trio.TrioCompute.first.Goals as goal

pub returns : goal.returns
returns c = sym (zero_first c.args.node c.args.i c.requires.node c.requires.word)
