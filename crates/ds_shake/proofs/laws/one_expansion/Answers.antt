use Rattle.ds_shake.proofs.OneExpansion.{one_expansion_lem}
use Rattle.ds_shake.proofs.laws.one_expansion.Goals as goal

pub returns : goal.returns
returns c = one_expansion_lem
