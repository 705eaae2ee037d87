use Rattle.ds_run.proofs.WindowTexts.{logs_go_on}
use Rattle.ds_run.proofs.laws.logs_go_on.Goals as goal

pub returns : goal.returns
returns c = logs_go_on
