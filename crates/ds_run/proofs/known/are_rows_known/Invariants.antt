use Rattle.std.proofs.Common.{take}
use Rattle.std.specs.Prelude.{All}
use Rattle.ds_base.specs.Values.{AreKnown}
use Rattle.ds_run.proofs.known.are_rows_known.Given as goal

abbrev pub invariant-loop-k : goal.invariant-loop-k
invariant-loop-k l = All AreKnown (take l.k l.vectors.rows)
