use Rattle.ds_total_laws.proofs.WantedGraphs.{controllers_are_decided}
use Rattle.ds_total_laws.proofs.expansions.controllers_are_decided.Goals as goal

pub returns : goal.returns
returns c = controllers_are_decided
