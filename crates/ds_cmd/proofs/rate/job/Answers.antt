use Rattle.ds_cmd.proofs.MemoryAnswers.{wants_memory}
use Rattle.ds_cmd.proofs.rate.job.Goals as goal

pub returns-in_err-new : goal.returns-in_err-new
returns-in_err-new c = wants_memory _ _ c.from_residual.ensures

pub returns-in_err-new-2 : goal.returns-in_err-new-2
returns-in_err-new-2 c = wants_memory _ _ c.from_residual-in_err-new-2.ensures
