use Rattle.ds_replay.proofs.PrintedLogs.{printed}
use Rattle.ds_replay.proofs.laws.printed_is_fired.Goals as goal

pub returns : goal.returns
returns c = printed
