use Rattle.std.proofs.Common.{◌≡◌, map, take}
use Rattle.ds_flat.specs.Interface.{names_of_models, ports_by}
use Rattle.ds_flat.proofs.library.Library.of.Given as goal

abbrev pub invariant-loop-model : goal.invariant-loop-model
invariant-loop-model l = record {
  names : l.names ≡ names_of_models (take l.model-index l.models);
  ports : l.ports.items ≡ map ports_by (take l.model-index l.models);
}
