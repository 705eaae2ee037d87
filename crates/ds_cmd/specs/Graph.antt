-- The command `graph`.
use Rattle.std.specs.Prelude.{List, [], ◌∷◌, Result, Ok, codes}
use Rattle.clap.specs.Words.{Row, Shape, first_of}
use Rattle.ds_cmd.specs.Argument.{command_shape, flag_rule, flag_with, is_set, option_rule}
use Rattle.ds_cmd.specs.Argument.{word_rule}
use Rattle.ds_cmd.specs.Clusters.{clusters_of}
use Rattle.ds_cmd.specs.Fault.{with_mode, with_number, with_value}
use Rattle.ds_cmd.specs.Number.{slack_of}
use Rattle.ds_cmd.specs.declared.job.Job.{Job}
use Rattle.ds_cmd.specs.declared.job.Job.TheVariants.{Graph}
use Rattle.ds_cmd.specs.declared.fault.UsageFault.{UsageFault}

-- `graph NET [--clusters MODE] [--groups F] [--slack N] [--shake]`
abbrev pub graph_shape : Shape
graph_shape = command_shape (codes "graph") (
    word_rule (codes "net") ∷
    option_rule (codes "clusters") ∷
    option_rule (codes "groups") ∷
    option_rule (codes "slack") ∷
    flag_rule (codes "shake") ∷ [])

-- its job, from the values of its arguments
abbrev pub graph_job : List Row → Result Job UsageFault
graph_job rows = with_value (first_of (codes "net") rows) (λ net.
    with_number (slack_of rows) (λ slack.
    with_mode (clusters_of rows) (λ clusters.
    with_mode (flag_with slack (is_set (codes "shake") rows)) (λ shake.
    Ok (Graph (record {
      net = net;
      clusters = clusters;
      groups = first_of (codes "groups") rows;
      slack = slack;
      shake = shake;
    }))))))
