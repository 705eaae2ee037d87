-- The command `clusters`.
use Rattle.std.specs.Prelude.{List, [], ◌∷◌, Result, Ok, codes}
use Rattle.clap.specs.Words.{Row, Shape, first_of}
use Rattle.ds_cmd.specs.Argument.{command_shape, option_rule, word_rule}
use Rattle.ds_cmd.specs.Clusters.{clusters_of}
use Rattle.ds_cmd.specs.Fault.{with_mode, with_value}
use Rattle.ds_cmd.specs.declared.job.Job.{Job}
use Rattle.ds_cmd.specs.declared.job.Job.TheVariants.{Clusters}
use Rattle.ds_cmd.specs.declared.fault.UsageFault.{UsageFault}

-- `clusters NET [--clusters MODE] [--groups F]`
abbrev pub clusters_shape : Shape
clusters_shape = command_shape (codes "clusters") (
    word_rule (codes "net") ∷
    option_rule (codes "clusters") ∷
    option_rule (codes "groups") ∷ [])

-- its job, from the values of its arguments
abbrev pub clusters_job : List Row → Result Job UsageFault
clusters_job rows = with_value (first_of (codes "net") rows) (λ net.
    with_mode (clusters_of rows) (λ clusters.
    Ok (Clusters (record {
      net = net;
      clusters = clusters;
      groups = first_of (codes "groups") rows;
    }))))
