use Rattle.ds_replay.proofs.LogLines.{refuses}
use Rattle.ds_replay.proofs.laws.refuses_first_faults.Goals as goal

pub returns : goal.returns
returns c = refuses
