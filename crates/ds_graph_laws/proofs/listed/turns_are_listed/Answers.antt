use Rattle.ds_graph_laws.proofs.TurnListing.{turns_are_listed}
use Rattle.ds_graph_laws.proofs.listed.turns_are_listed.Goals as goal

pub returns : goal.returns
returns c = turns_are_listed
