-- The command `rate`.
use Rattle.std.specs.Prelude.{List, [], ◌∷◌, Result, Ok, codes}
use Rattle.clap.specs.Words.{Row, Shape, first_of}
use Rattle.ds_cmd.specs.Argument.{command_shape, word_rule}
use Rattle.ds_cmd.specs.Fault.{with_value}
use Rattle.ds_cmd.specs.declared.job.Job.{Job}
use Rattle.ds_cmd.specs.declared.job.Job.TheVariants.{Rate}
use Rattle.ds_cmd.specs.declared.fault.UsageFault.{UsageFault}

-- `rate G D`
abbrev pub rate_shape : Shape
rate_shape = command_shape (codes "rate") (
    word_rule (codes "graph") ∷
    word_rule (codes "delays") ∷ [])

-- its job, from the values of its arguments
abbrev pub rate_job : List Row → Result Job UsageFault
rate_job rows = with_value (first_of (codes "graph") rows) (λ graph.
    with_value (first_of (codes "delays") rows) (λ delays.
    Ok (Rate (record { graph = graph; delays = delays }))))
