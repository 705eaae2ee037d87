use Rattle.ds_split.proofs.BusKeys.{zero_keys}
use Rattle.ds_split.proofs.register_keys.alike.Goals as goal

pub returns : goal.returns
returns c = zero_keys c.args.count c.in_ok-zeros.field-0.items c.in_ok-zeros.ensures
