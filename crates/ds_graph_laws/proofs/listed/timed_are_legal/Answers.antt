use Rattle.ds_graph_laws.proofs.Legality.{timed_are_legal}
use Rattle.ds_graph_laws.proofs.listed.timed_are_legal.Goals as goal

pub returns : goal.returns
returns c = timed_are_legal
