use Rattle.ds_opening.proofs.ForeseenRows.{foresees_rows_lem}
use Rattle.ds_opening.proofs.laws.foresees_rows.Goals as goal

pub returns : goal.returns
returns c = foresees_rows_lem
