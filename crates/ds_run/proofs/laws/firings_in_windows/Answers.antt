use Rattle.ds_run.proofs.FiringWindows.{firings_in_windows_lem}
use Rattle.ds_run.proofs.laws.firings_in_windows.Goals as goal

pub returns : goal.returns
returns c = firings_in_windows_lem
