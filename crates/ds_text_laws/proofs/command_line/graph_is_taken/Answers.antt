use Rattle.ds_text_laws.proofs.TakenCommands.{graph_taken, graph_with_mode, graph_with_shake}
use Rattle.ds_text_laws.proofs.TakenSlack.{graph_with_slack}
use Rattle.ds_text_laws.proofs.command_line.graph_is_taken.Goals as goal

pub returns-clause-each : goal.returns-clause-each
returns-clause-each c = graph_taken

pub returns-clause-clusters : goal.returns-clause-clusters
returns-clause-clusters c = graph_with_mode

pub returns-clause-shake : goal.returns-clause-shake
returns-clause-shake c = graph_with_shake

pub returns-clause-slack : goal.returns-clause-slack
returns-clause-slack c = graph_with_slack
