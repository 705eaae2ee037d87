use Rattle.ds_table_laws.proofs.StepAnswers.{done_is_whole_lem}
use Rattle.ds_table_laws.proofs.steps.done_is_whole.Goals as goal

pub returns : goal.returns
returns c = done_is_whole_lem
