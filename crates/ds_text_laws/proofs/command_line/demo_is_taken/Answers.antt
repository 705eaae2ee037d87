use Rattle.ds_text_laws.proofs.TakenNumbers.{demo_taken, demo_with_jobs}
use Rattle.ds_text_laws.proofs.command_line.demo_is_taken.Goals as goal

pub returns-clause-one : goal.returns-clause-one
returns-clause-one c = demo_taken

pub returns-clause-jobs : goal.returns-clause-jobs
returns-clause-jobs c = demo_with_jobs
