use Rattle.ds_total_laws.proofs.CallsDecided.{statuses_are_told}
use Rattle.ds_total_laws.proofs.statuses.statuses_are_told.Goals as goal

pub returns : goal.returns
returns c = statuses_are_told
