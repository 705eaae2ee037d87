use Rattle.ds_marked.proofs.Progress.{legal_goes_on}
use Rattle.ds_marked.proofs.laws.legal_goes_on.Goals as goal

pub returns : goal.returns
returns c = legal_goes_on
