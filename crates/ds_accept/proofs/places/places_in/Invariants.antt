use Rattle.ds_accept.proofs.EventPlaces.{ArePlacedTo}
use Rattle.ds_accept.proofs.places.places_in.Given as goal

abbrev pub invariant-loop-k : goal.invariant-loop-k
invariant-loop-k l = ArePlacedTo l.events l.others l.k l.places.items
