use Rattle.std.proofs.Common.{refl}
use Rattle.ds_flat.specs.Interface.{ports_by}
use Rattle.ds_flat.proofs.Models.{names_more, ports_more}
use Rattle.ds_flat.proofs.library.Library.of.Goals as goal

pub loop-model-preserved : goal.loop-model-preserved
loop-model-preserved c = record {
  names = names_more c.args.models.now c.loop-model.model-index c.model-item.result c.loop-model.names
      c.add_model.new.names c.requires c.loop-model-test.true c.model-item.is
      c.loop-model.invariant.names c.in_ok-add_model.ensures.names;
  ports = ports_more c.args.models.now c.loop-model.model-index c.model-item.result
      c.loop-model.ports.items c.add_model.new.ports.items (ports_by c.model-item.result)
      c.loop-model-test.true c.model-item.is c.loop-model.invariant.ports refl
      c.in_ok-add_model.ensures.ports;
}
