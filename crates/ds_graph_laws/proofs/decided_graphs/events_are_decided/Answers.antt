use Rattle.ds_graph_laws.proofs.EventsDecided.{events_are_decided}
use Rattle.ds_graph_laws.proofs.decided_graphs.events_are_decided.Goals as goal

pub returns : goal.returns
returns c = events_are_decided
