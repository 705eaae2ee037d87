use Rattle.std.proofs.Common.{◌<◌, ℕ}
use Rattle.ds_fire.specs.Fired.{IsReady}
use Rattle.ds_fire.proofs.state.State.next_enabled.Given as goal

abbrev pub invariant-loop-v : goal.invariant-loop-v
invariant-loop-v l = (u : ℕ) → u < l.v → ¬ IsReady l.self u
