use Rattle.ds_replay.proofs.PrintedLogs.{trace_is_front}
use Rattle.ds_replay.proofs.laws.trace_is_front.Goals as goal

pub returns : goal.returns
returns c = trace_is_front
