use Rattle.std.proofs.Common.{sym, subst}
use Rattle.ds_rule.specs.Sound.{IsSound}
use Rattle.ds_table_tests.proofs.TrioRun.{sound}
use Rattle.ds_table_tests.proofs.trio.begin.Goals as goal

pub build-requires-clause-sound : goal.build-requires-clause-sound
build-requires-clause-sound c = subst IsSound (sym c.requires) sound
