-- The command `check`.
use Rattle.std.specs.Prelude.{List, [], ◌∷◌, Result, Ok, codes}
use Rattle.clap.specs.Words.{Row, Shape, first_of}
use Rattle.ds_cmd.specs.Argument.{command_shape, word_rule}
use Rattle.ds_cmd.specs.Fault.{with_value}
use Rattle.ds_cmd.specs.declared.job.Job.{Job}
use Rattle.ds_cmd.specs.declared.job.Job.TheVariants.{Check}
use Rattle.ds_cmd.specs.declared.fault.UsageFault.{UsageFault}

-- `check NET`
abbrev pub check_shape : Shape
check_shape = command_shape (codes "check") (word_rule (codes "net") ∷ [])

-- its job, from the values of its arguments
abbrev pub check_job : List Row → Result Job UsageFault
check_job rows = with_value (first_of (codes "net") rows) (λ net. Ok (Check net))
