use Rattle.ds_latch.proofs.PlanWindows.{values_in_windows}
use Rattle.ds_latch.proofs.laws.values_in_windows.Goals as goal

pub returns : goal.returns
returns c = values_in_windows
