use Rattle.ds_latch.proofs.EventNodes.{all_places_differ}
use Rattle.ds_latch.proofs.laws.places_differ.Goals as goal

pub returns : goal.returns
returns c = all_places_differ
