use Rattle.ds_graph_laws.proofs.SplitsDecided.{splits_decided}
use Rattle.ds_graph_laws.proofs.splits.splits_are_decided.Goals as goal

pub returns : goal.returns
returns c = splits_decided
