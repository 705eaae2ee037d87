use Rattle.ds_rule.proofs.LegalLogs.{logs_are_legal as law}
use Rattle.ds_rule.proofs.laws.logs_are_legal.Goals as goal

pub returns : goal.returns
returns c = law
