use Rattle.ds_run.proofs.RecordFirings.{records_are_legal_lem}
use Rattle.ds_run.proofs.laws.records_are_legal.Goals as goal

pub returns : goal.returns
returns c = records_are_legal_lem
