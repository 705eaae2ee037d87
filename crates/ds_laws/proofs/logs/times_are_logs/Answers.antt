use Rattle.ds_laws.proofs.TimedLogs.{times_are_logs}
use Rattle.ds_laws.proofs.logs.times_are_logs.Goals as goal

pub returns : goal.returns
returns c = times_are_logs
