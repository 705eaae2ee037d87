use Rattle.ds_table_laws.proofs.StepAnswers.{not_yet_is_part_lem}
use Rattle.ds_table_laws.proofs.steps.not_yet_is_part.Goals as goal

pub returns : goal.returns
returns c = not_yet_is_part_lem
