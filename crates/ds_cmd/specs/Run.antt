-- The command `run`.
use Rattle.std.specs.Prelude.{List, [], ◌∷◌, Result, Ok, codes}
use Rattle.clap.specs.Words.{Row, Shape, first_of}
use Rattle.ds_cmd.specs.Argument.{command_shape, flag_rule, is_set, option_rule, word_rule}
use Rattle.ds_cmd.specs.Clusters.{clusters_of}
use Rattle.ds_cmd.specs.Fault.{with_mode, with_number, with_value}
use Rattle.ds_cmd.specs.Number.{jobs_of, slack_of, stop_in}
use Rattle.ds_cmd.specs.declared.job.Job.{Job}
use Rattle.ds_cmd.specs.declared.job.Job.TheVariants.{Run}
use Rattle.ds_cmd.specs.declared.fault.UsageFault.{UsageFault}

-- `run NET VEC [--graph G] [--clusters MODE] [--groups F] [--jobs N] [--log] [--slack N]
-- [--stop N]`
abbrev pub run_shape : Shape
run_shape = command_shape (codes "run") (
    word_rule (codes "net") ∷
    word_rule (codes "vec") ∷
    option_rule (codes "graph") ∷
    option_rule (codes "clusters") ∷
    option_rule (codes "groups") ∷
    option_rule (codes "jobs") ∷
    flag_rule (codes "log") ∷
    option_rule (codes "slack") ∷
    option_rule (codes "stop") ∷ [])

-- its job, from the values of its arguments
abbrev pub run_job : List Row → Result Job UsageFault
run_job rows = with_value (first_of (codes "net") rows) (λ net.
    with_value (first_of (codes "vec") rows) (λ vec.
    with_number (jobs_of rows) (λ jobs.
    with_number (slack_of rows) (λ slack.
    with_number (stop_in rows) (λ stop.
    with_mode (clusters_of rows) (λ clusters.
    Ok (Run (record {
      net = net;
      vec = vec;
      graph = first_of (codes "graph") rows;
      clusters = clusters;
      groups = first_of (codes "groups") rows;
      jobs = jobs;
      log = is_set (codes "log") rows;
      slack = slack;
      stop = stop;
    }))))))))
