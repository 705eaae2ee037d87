use Rattle.ds_text_laws.proofs.TakenReplay.{replay_taken, replay_with_slack}
use Rattle.ds_text_laws.proofs.TakenReplay.{replay_with_transparent}
use Rattle.ds_text_laws.proofs.command_line.replay_is_taken.Goals as goal

pub returns-clause-each : goal.returns-clause-each
returns-clause-each c = replay_taken

pub returns-clause-slack : goal.returns-clause-slack
returns-clause-slack c = replay_with_slack

pub returns-clause-transparent : goal.returns-clause-transparent
returns-clause-transparent c = replay_with_transparent
