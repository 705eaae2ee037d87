use Rattle.ds_laws.proofs.RankedIsAcyclic.{ranked_has_no_cycle}
use Rattle.ds_laws.proofs.orders.ranked_has_no_cycle.Goals as goal

pub returns : goal.returns
returns c = ranked_has_no_cycle
