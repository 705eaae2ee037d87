use Rattle.ds_latch.proofs.PlanWindows.{stored_in_windows}
use Rattle.ds_latch.proofs.laws.stored_in_windows.Goals as goal

pub returns : goal.returns
returns c = stored_in_windows
