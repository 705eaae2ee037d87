use Rattle.ds_replay.proofs.PrintedLogs.{printed_behind}
use Rattle.ds_replay.proofs.laws.printed_behind_is_fired.Goals as goal

pub returns : goal.returns
returns c = printed_behind
