use Rattle.ds_latch.proofs.NothingNew.{nothing_new_fires}
use Rattle.ds_shake.proofs.ExpansionIsPlan.{expansion_is_plan}
use Rattle.ds_shake.proofs.laws.expansions_fire_nothing_new.Goals as goal

pub returns : goal.returns
returns c s g orders split e events are = nothing_new_fires s g orders (expansion_is_plan s g split e) events are
