use Rattle.ds_table_tests.specs.Toggle.{HoldsBoth}
use Rattle.ds_table_tests.proofs.run_tests.fires.Given as goal

abbrev pub invariant-loop-event : goal.invariant-loop-event
invariant-loop-event l = HoldsBoth l.fn.fabric l.pass
