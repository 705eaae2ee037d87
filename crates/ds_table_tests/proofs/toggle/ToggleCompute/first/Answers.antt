use Rattle.std.proofs.Common.{sym}
use Rattle.ds_table_tests.proofs.ToggleRun.{first_zero}
use Rattle.ds_table_tests.proofs.toggle.ToggleCompute.first.Goals as goal

pub returns : goal.returns
returns c = sym (first_zero c.args.node c.args.i c.requires.node c.requires.word)
