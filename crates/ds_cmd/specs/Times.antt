-- The command `times`.
use Rattle.std.specs.Prelude.{List, [], ◌∷◌, Result, Ok, codes}
use Rattle.clap.specs.Words.{Row, Shape, first_of}
use Rattle.ds_base.specs.Limit.{most_of}
use Rattle.ds_base.specs.declared.number.Limit.TheVariants.{Vectors}
use Rattle.ds_cmd.specs.Argument.{command_shape, option_rule, word_rule}
use Rattle.ds_cmd.specs.Clusters.{clusters_of}
use Rattle.ds_cmd.specs.Fault.{with_mode, with_number, with_value}
use Rattle.ds_cmd.specs.Number.{number_in_range, slack_of}
use Rattle.ds_cmd.specs.declared.job.Job.{Job}
use Rattle.ds_cmd.specs.declared.job.Job.TheVariants.{Times}
use Rattle.ds_cmd.specs.declared.fault.UsageFault.{UsageFault}

-- `times NET D TURNS [--graph G] [--clusters MODE] [--groups F] [--slack N]`
abbrev pub times_shape : Shape
times_shape = command_shape (codes "times") (
    word_rule (codes "net") ∷
    word_rule (codes "delays") ∷
    word_rule (codes "turns") ∷
    option_rule (codes "graph") ∷
    option_rule (codes "clusters") ∷
    option_rule (codes "groups") ∷
    option_rule (codes "slack") ∷ [])

-- its job, from the values of its arguments
abbrev pub times_job : List Row → Result Job UsageFault
times_job rows = with_value (first_of (codes "net") rows) (λ net.
    with_value (first_of (codes "delays") rows) (λ delays.
    with_value (first_of (codes "turns") rows) (λ turns.
    with_number (number_in_range 0 (most_of Vectors) turns) (λ turns.
    with_number (slack_of rows) (λ slack.
    with_mode (clusters_of rows) (λ clusters.
    Ok (Times (record {
      net = net;
      delays = delays;
      turns = turns;
      graph = first_of (codes "graph") rows;
      clusters = clusters;
      groups = first_of (codes "groups") rows;
      slack = slack;
    }))))))))
