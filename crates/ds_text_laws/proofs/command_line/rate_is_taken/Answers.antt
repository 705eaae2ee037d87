use Rattle.ds_text_laws.proofs.TakenTimes.{rate_taken}
use Rattle.ds_text_laws.proofs.command_line.rate_is_taken.Goals as goal

pub returns : goal.returns
returns c = rate_taken
