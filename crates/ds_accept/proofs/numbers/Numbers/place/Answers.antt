use Rattle.ds_accept.specs.Codes.{event_code}
use Rattle.ds_accept.proofs.EventKeys.{found}
use Rattle.ds_accept.proofs.numbers.Numbers.place.Goals as goal

pub returns : goal.returns
returns c = found c.key_of.result c.self.inside.keys.keys c.args.self.now c.self.view_is (event_code c.args.event.now) c.key_of.ensures
    c.get_index_of.result c.get_index_of.ensures.index
