use Rattle.ds_laws.proofs.PlainNames.{names_are_plain}
use Rattle.ds_laws.proofs.names.names_are_plain.Goals as goal

pub returns : goal.returns
returns c = names_are_plain
