-- Where memory is wanted, any answer may be that.
use Rattle.std.specs.Prelude.{◌≡◌, Result, Ok, Err, IsErr, IsErrAnd}
use Rattle.std.proofs.Common.{inl}
use Rattle.ds_cmd.specs.Fault.{Gives}
use Rattle.ds_cmd.specs.declared.job.Job.{Job}
use Rattle.ds_cmd.specs.declared.fault.UsageFault.{UsageFault}
use Rattle.ds_cmd.specs.declared.fault.UsageFault.TheVariants.{Memory}

-- want of memory, whatever is meant
pub wants_memory : (meant answer : Result Job UsageFault)
    → IsErr answer × IsErrAnd answer (λ why. why ≡ Memory) → Gives meant answer
wants_memory meant (Ok job) (_, is) = absurd is
wants_memory meant (Err why) (_, is) = inl is
