use Rattle.ds_stage.proofs.OwnWords.{planned_words}
use Rattle.ds_stage.proofs.laws.plans_have_own_words.Goals as goal

pub returns : goal.returns
returns c = planned_words
