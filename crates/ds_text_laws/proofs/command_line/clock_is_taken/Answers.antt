use Rattle.ds_text_laws.proofs.TakenCommands.{clock_taken}
use Rattle.ds_text_laws.proofs.command_line.clock_is_taken.Goals as goal

pub returns : goal.returns
returns c = clock_taken
