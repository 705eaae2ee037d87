-- The command `replay`.
use Rattle.std.specs.Prelude.{List, [], ◌∷◌, Result, Ok, codes}
use Rattle.clap.specs.Words.{Row, Shape, first_of}
use Rattle.ds_cmd.specs.Argument.{command_shape, flag_rule, flag_with, is_set, option_rule}
use Rattle.ds_cmd.specs.Argument.{word_rule}
use Rattle.ds_cmd.specs.Clusters.{clusters_of}
use Rattle.ds_cmd.specs.Fault.{with_mode, with_number, with_value}
use Rattle.ds_cmd.specs.Number.{slack_of}
use Rattle.ds_cmd.specs.declared.job.Job.{Job}
use Rattle.ds_cmd.specs.declared.job.Job.TheVariants.{Replay}
use Rattle.ds_cmd.specs.declared.fault.UsageFault.{UsageFault}

-- `replay NET VEC LOG [--graph G] [--clusters MODE] [--groups F] [--slack N] [--transparent]`
abbrev pub replay_shape : Shape
replay_shape = command_shape (codes "replay") (
    word_rule (codes "net") ∷
    word_rule (codes "vec") ∷
    word_rule (codes "log") ∷
    option_rule (codes "graph") ∷
    option_rule (codes "clusters") ∷
    option_rule (codes "groups") ∷
    option_rule (codes "slack") ∷
    flag_rule (codes "transparent") ∷ [])

-- its job, from the values of its arguments
abbrev pub replay_job : List Row → Result Job UsageFault
replay_job rows = with_value (first_of (codes "net") rows) (λ net.
    with_value (first_of (codes "vec") rows) (λ vec.
    with_value (first_of (codes "log") rows) (λ log.
    with_number (slack_of rows) (λ slack.
    with_mode (clusters_of rows) (λ clusters.
    with_mode (flag_with slack (is_set (codes "transparent") rows)) (λ transparent.
    Ok (Replay (record {
      net = net;
      vec = vec;
      log = log;
      graph = first_of (codes "graph") rows;
      clusters = clusters;
      groups = first_of (codes "groups") rows;
      slack = slack;
      transparent = transparent;
    }))))))))
