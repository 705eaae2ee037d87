use Rattle.std.proofs.Common.{◌≡◌, map, take}
use Rattle.ds_run.specs.Tokened.{tokened}
use Rattle.ds_run.proofs.edges.with_tokens.Given as goal

abbrev pub invariant-loop-edge : goal.invariant-loop-edge
invariant-loop-edge l = l.edges.items ≡ map tokened (take l.edge-index l.given)
