-- The command `demo`.
use Rattle.std.specs.Prelude.{List, [], ◌∷◌, Result, Ok, codes}
use Rattle.clap.specs.Words.{Row, Shape, Text, first_of}
use Rattle.ds_base.specs.Limit.{most_of}
use Rattle.ds_base.specs.declared.number.Limit.TheVariants.{Clusters, Vectors}
use Rattle.ds_cmd.specs.Argument.{command_shape, word_rule, option_rule}
use Rattle.ds_cmd.specs.Fault.{with_number, with_value}
use Rattle.ds_cmd.specs.Number.{jobs_of, number_in_range}
use Rattle.ds_cmd.specs.declared.job.Job.{Job}
use Rattle.ds_cmd.specs.declared.job.Job.TheVariants.{Demo}
use Rattle.ds_cmd.specs.declared.fault.UsageFault.{UsageFault}

-- `demo SEED REGISTERS TURNS [--jobs N]`
abbrev pub demo_shape : Shape
demo_shape = command_shape (codes "demo") (
    word_rule (codes "seed") ∷
    word_rule (codes "registers") ∷
    word_rule (codes "turns") ∷
    option_rule (codes "jobs") ∷ [])

-- its job, from the three words and the values of its arguments: a seed of 64 bits, a register or
-- more, each of which has a cluster of its own, and turns
abbrev pub demo_of : Text → Text → Text → List Row → Result Job UsageFault
demo_of seed registers turns rows =
    with_number (number_in_range 0 18446744073709551615 seed) (λ seed.
    with_number (number_in_range 1 (most_of Clusters) registers) (λ registers.
    with_number (number_in_range 0 (most_of Vectors) turns) (λ turns.
    with_number (jobs_of rows) (λ jobs.
    Ok (Demo (record { seed = seed; registers = registers; turns = turns; jobs = jobs }))))))

-- its job, from the values of its arguments
abbrev pub demo_job : List Row → Result Job UsageFault
demo_job rows = with_value (first_of (codes "seed") rows) (λ seed.
    with_value (first_of (codes "registers") rows) (λ registers.
    with_value (first_of (codes "turns") rows) (λ turns. demo_of seed registers turns rows)))
