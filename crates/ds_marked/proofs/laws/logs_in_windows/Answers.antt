use Rattle.ds_marked.proofs.LogWindows.{logs_in_windows}
use Rattle.ds_marked.proofs.laws.logs_in_windows.Goals as goal

pub returns : goal.returns
returns c = logs_in_windows
