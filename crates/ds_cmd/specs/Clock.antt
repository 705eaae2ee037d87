-- The command `clock`.
use Rattle.std.specs.Prelude.{List, [], ◌∷◌, Result, Ok, codes}
use Rattle.clap.specs.Words.{Row, Shape, first_of}
use Rattle.ds_cmd.specs.Argument.{command_shape, word_rule}
use Rattle.ds_cmd.specs.Fault.{with_value}
use Rattle.ds_cmd.specs.declared.job.Job.{Job}
use Rattle.ds_cmd.specs.declared.job.Job.TheVariants.{Clock}
use Rattle.ds_cmd.specs.declared.fault.UsageFault.{UsageFault}

-- `clock NET VEC`
abbrev pub clock_shape : Shape
clock_shape =
    command_shape (codes "clock") (word_rule (codes "net") ∷ word_rule (codes "vec") ∷ [])

-- its job, from the values of its arguments
abbrev pub clock_job : List Row → Result Job UsageFault
clock_job rows = with_value (first_of (codes "net") rows) (λ net.
    with_value (first_of (codes "vec") rows) (λ vec.
    Ok (Clock (record { net = net; vec = vec }))))
