use Rattle.ds_laws.proofs.ReadRows.{read_rows_stay}
use Rattle.ds_laws.proofs.latches.read_rows_stay.Goals as goal

pub returns : goal.returns
returns c = read_rows_stay
