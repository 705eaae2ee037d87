-- The table of commands.
use Rattle.std.specs.Prelude.{List, [], ◌∷◌, map, Result, true, false, codes}
use Rattle.clap.specs.Words.{App, Row, Shape}
use Rattle.clap.specs.Simple.{new_shape}
use Rattle.ds_cmd.specs.Run.{run_job, run_shape}
use Rattle.ds_cmd.specs.Clock.{clock_job, clock_shape}
use Rattle.ds_cmd.specs.Check.{check_job, check_shape}
use Rattle.ds_cmd.specs.Graph.{graph_job, graph_shape}
use Rattle.ds_cmd.specs.Replay.{replay_job, replay_shape}
use Rattle.ds_cmd.specs.Accept.{accept_job, accept_shape}
use Rattle.ds_cmd.specs.Demo.{demo_job, demo_shape}
use Rattle.ds_cmd.specs.Period.{period_job, period_shape}
use Rattle.ds_cmd.specs.ListClusters.{clusters_job, clusters_shape}
use Rattle.ds_cmd.specs.Rate.{rate_job, rate_shape}
use Rattle.ds_cmd.specs.Times.{times_job, times_shape}
use Rattle.ds_cmd.specs.declared.job.Job.{Job}
use Rattle.ds_cmd.specs.declared.fault.UsageFault.{UsageFault}

-- a command: its words, and its job by the values of its arguments
pub record Entry : Type 0 where
  pub shape : Shape
  pub job : List Row → Result Job UsageFault

-- the commands
abbrev pub commands : List Entry
commands = record { shape = run_shape; job = run_job }
    ∷ record { shape = clock_shape; job = clock_job }
    ∷ record { shape = check_shape; job = check_job }
    ∷ record { shape = graph_shape; job = graph_job }
    ∷ record { shape = replay_shape; job = replay_job }
    ∷ record { shape = accept_shape; job = accept_job }
    ∷ record { shape = demo_shape; job = demo_job }
    ∷ record { shape = period_shape; job = period_job }
    ∷ record { shape = clusters_shape; job = clusters_job }
    ∷ record { shape = rate_shape; job = rate_job }
    ∷ record { shape = times_shape; job = times_job }
    ∷ []

-- the program, which wants one of the commands
abbrev pub desync : App
desync = record {
  top = record (new_shape (codes "desync")) { subcommand_required = true; is_leaf = false };
  subs = map (λ entry. entry.shape) commands;
}
