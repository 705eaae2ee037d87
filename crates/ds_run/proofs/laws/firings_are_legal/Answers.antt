use Rattle.ds_run.proofs.RecordFirings.{firings_are_legal_lem}
use Rattle.ds_run.proofs.laws.firings_are_legal.Goals as goal

pub returns : goal.returns
returns c = firings_are_legal_lem
