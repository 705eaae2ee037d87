use Rattle.std.proofs.Common.{◌≡◌, map, take}
use Rattle.ds_flat.specs.Bare.{bare}
use Rattle.ds_flat.proofs.bare.bare_models.Given as goal

abbrev pub invariant-loop-model : goal.invariant-loop-model
invariant-loop-model l = l.all.items ≡ map bare (take l.model-index l.models)
