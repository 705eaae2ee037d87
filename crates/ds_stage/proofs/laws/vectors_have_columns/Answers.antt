use Rattle.ds_stage.proofs.FileMeaning.{vectors_wide}
use Rattle.ds_stage.proofs.laws.vectors_have_columns.Goals as goal

pub returns : goal.returns
returns c = vectors_wide
