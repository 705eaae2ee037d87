use Rattle.ds_shake.proofs.FaultyExpansion.{arcs_fit_lem}
use Rattle.ds_shake.proofs.laws.arcs_fit.Goals as goal

pub returns : goal.returns
returns c = arcs_fit_lem
