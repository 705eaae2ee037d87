use Rattle.ds_text_laws.proofs.UnknownCommand.{refused_name}
use Rattle.ds_text_laws.proofs.command_line.other_names_are_refused.Goals as goal

pub returns : goal.returns
returns c = refused_name
