use Rattle.ds_text_laws.proofs.TakenPeriod.{period_taken, period_with_graph, period_with_mode}
use Rattle.ds_text_laws.proofs.TakenSlack.{period_with_slack}
use Rattle.ds_text_laws.proofs.command_line.period_is_taken.Goals as goal

pub returns-clause-each : goal.returns-clause-each
returns-clause-each c = period_taken

pub returns-clause-clusters : goal.returns-clause-clusters
returns-clause-clusters c = period_with_mode

pub returns-clause-graph : goal.returns-clause-graph
returns-clause-graph c = period_with_graph

pub returns-clause-slack : goal.returns-clause-slack
returns-clause-slack c = period_with_slack
