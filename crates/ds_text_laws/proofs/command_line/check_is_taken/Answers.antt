use Rattle.ds_text_laws.proofs.TakenCommands.{check_taken}
use Rattle.ds_text_laws.proofs.command_line.check_is_taken.Goals as goal

pub returns : goal.returns
returns c = check_taken
