use Rattle.ds_demo.proofs.Accepts.{vectors_fit}
use Rattle.ds_demo.proofs.laws.vectors_fit.Goals as goal

pub returns : goal.returns
returns c = vectors_fit
