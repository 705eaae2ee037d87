-- The command `accept`.
use Rattle.std.specs.Prelude.{List, [], ◌∷◌, Result, Ok, codes}
use Rattle.clap.specs.Words.{Row, Shape, first_of}
use Rattle.ds_cmd.specs.Argument.{command_shape, word_rule, option_rule}
use Rattle.ds_cmd.specs.Clusters.{clusters_of}
use Rattle.ds_cmd.specs.Fault.{with_mode, with_number, with_value}
use Rattle.ds_cmd.specs.Number.{slack_of}
use Rattle.ds_cmd.specs.declared.job.Job.{Job}
use Rattle.ds_cmd.specs.declared.job.Job.TheVariants.{Accept}
use Rattle.ds_cmd.specs.declared.fault.UsageFault.{UsageFault}

-- `accept NET G [--clusters MODE] [--groups F] [--slack N]`
abbrev pub accept_shape : Shape
accept_shape = command_shape (codes "accept") (
    word_rule (codes "net") ∷
    word_rule (codes "graph") ∷
    option_rule (codes "clusters") ∷
    option_rule (codes "groups") ∷
    option_rule (codes "slack") ∷ [])

-- its job, from the values of its arguments
abbrev pub accept_job : List Row → Result Job UsageFault
accept_job rows = with_value (first_of (codes "net") rows) (λ net.
    with_value (first_of (codes "graph") rows) (λ graph.
    with_number (slack_of rows) (λ slack.
    with_mode (clusters_of rows) (λ clusters.
    Ok (Accept (record {
      net = net;
      graph = graph;
      clusters = clusters;
      groups = first_of (codes "groups") rows;
      slack = slack;
    }))))))
