use Rattle.ds_total_laws.proofs.ExpansionsDecided.{expansions_are_decided}
use Rattle.ds_total_laws.proofs.expansions.expansions_are_decided.Goals as goal

pub returns : goal.returns
returns c = expansions_are_decided
