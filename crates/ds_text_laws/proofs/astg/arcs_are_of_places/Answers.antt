use Rattle.ds_text_laws.proofs.ArcsOfPlaces.{arcs_are_of_places_lem}
use Rattle.ds_text_laws.proofs.astg.arcs_are_of_places.Goals as goal

pub returns : goal.returns
returns c = arcs_are_of_places_lem
