use Rattle.std.proofs.Common.{refl}
use Rattle.ds_runner.proofs.firing_order.is_order.Goals as goal

pub returns : goal.returns
returns g c so = record {
  places = c.args.places.now;
  stand = c.if-not-stand_in_place.ensures refl;
  all = c.if-not-have_places.ensures refl;
  rise = c.if-not-rise.ensures refl;
  close = c.close_later.ensures so;
}
