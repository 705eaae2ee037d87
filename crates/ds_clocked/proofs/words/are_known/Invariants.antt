use Rattle.std.proofs.Common.{ℕ, ◌<◌, get_or}
use Rattle.ds_base.specs.Values.{AreKnown, Row}
use Rattle.ds_clocked.proofs.words.are_known.Given as goal

abbrev pub invariant-loop-k : goal.invariant-loop-k
invariant-loop-k l = (j : ℕ) (d : Row) → j < l.k → AreKnown (get_or l.vectors.rows j d)
