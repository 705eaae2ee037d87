use Rattle.ds_laws.proofs.LoggedIsFired.{logged_is_fired}
use Rattle.ds_laws.proofs.logs.logged_is_fired.Goals as goal

pub returns : goal.returns
returns c = logged_is_fired
