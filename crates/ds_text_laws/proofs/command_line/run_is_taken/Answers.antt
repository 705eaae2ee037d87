use Rattle.ds_text_laws.proofs.TakenCommands.{run_taken, run_with_mode}
use Rattle.ds_text_laws.proofs.TakenGraph.{run_with_graph}
use Rattle.ds_text_laws.proofs.TakenNumbers.{run_with_jobs, run_with_log, run_with_slack, run_with_stop}
use Rattle.ds_text_laws.proofs.command_line.run_is_taken.Goals as goal

pub returns-clause-each : goal.returns-clause-each
returns-clause-each c = run_taken

pub returns-clause-clusters : goal.returns-clause-clusters
returns-clause-clusters c = run_with_mode

pub returns-clause-graph : goal.returns-clause-graph
returns-clause-graph c = run_with_graph

pub returns-clause-jobs : goal.returns-clause-jobs
returns-clause-jobs c = run_with_jobs

pub returns-clause-log : goal.returns-clause-log
returns-clause-log c = run_with_log

pub returns-clause-slack : goal.returns-clause-slack
returns-clause-slack c = run_with_slack

pub returns-clause-stop : goal.returns-clause-stop
returns-clause-stop c = run_with_stop
