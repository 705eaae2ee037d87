use Rattle.ds_shake.proofs.ExpansionIsPlan.{expansion_is_plan}
use Rattle.ds_shake.proofs.laws.expansions_are_plans.Goals as goal

pub returns : goal.returns
returns c s g split e = expansion_is_plan s g split e
