use Rattle.ds_text_laws.proofs.TakenTimes.{times_taken}
use Rattle.ds_text_laws.proofs.command_line.times_is_taken.Goals as goal

pub returns : goal.returns
returns c = times_taken
