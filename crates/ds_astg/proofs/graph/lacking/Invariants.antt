use Rattle.std.proofs.Common.{◌≡◌, drop}
use Rattle.ds_astg.specs.Read.{lacking as lacking_in}
use Rattle.ds_astg.proofs.graph.lacking.Given as goal

abbrev pub invariant-loop-i : goal.invariant-loop-i
invariant-loop-i l = lacking_in l.places.keys l.places.places ≡ lacking_in (drop l.i l.places.keys) (drop l.i l.places.places)
