use Rattle.std.proofs.Common.{refl}
use Rattle.ds_split.proofs.KeyedBuses.{placed_in}
use Rattle.ds_split.proofs.buses.Buses.place.Goals as goal

pub returns : goal.returns
returns c = placed_in c.self.inside.set.keys c.args.bus c.args.self.now _ c.self.view_is
    c.insert_full.new.self.keys refl c.in_ok-place.place c.in_ok-place.ensures.keys c.in_ok-place.ensures.index
