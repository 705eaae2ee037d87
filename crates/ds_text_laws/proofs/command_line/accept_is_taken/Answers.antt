use Rattle.ds_text_laws.proofs.TakenGraph.{accept_taken}
use Rattle.ds_text_laws.proofs.TakenSlack.{accept_with_slack}
use Rattle.ds_text_laws.proofs.command_line.accept_is_taken.Goals as goal

pub returns-clause-each : goal.returns-clause-each
returns-clause-each c = accept_taken

pub returns-clause-slack : goal.returns-clause-slack
returns-clause-slack c = accept_with_slack
