-- The jobs of commands without options.
use Rattle.std.specs.Prelude.{ℕ, false, None}
use Rattle.clap.specs.Words.{Text}
use Rattle.ds_base.specs.declared.number.Mode.TheVariants.{Each}
use Rattle.ds_cmd.specs.declared.accept.AcceptJob.{AcceptJob}
use Rattle.ds_cmd.specs.declared.graph.GraphJob.{GraphJob}
use Rattle.ds_cmd.specs.declared.list_clusters.ClustersJob.{ClustersJob}
use Rattle.ds_cmd.specs.declared.period.PeriodJob.{PeriodJob}
use Rattle.ds_cmd.specs.declared.replay.ReplayJob.{ReplayJob}
use Rattle.ds_cmd.specs.declared.run.RunJob.{RunJob}
use Rattle.ds_cmd.specs.declared.times.TimesJob.{TimesJob}

-- `run NET VEC`: each register is a cluster of its own, one thread is wanted, no log and no slack,
-- and the run goes to its end
abbrev pub bare_run : Text → Text → RunJob
bare_run net vec = record {
  net = net;
  vec = vec;
  graph = None;
  clusters = Each;
  groups = None;
  jobs = 1;
  log = false;
  slack = 0;
  stop = None;
}

-- `graph NET`: each register is a cluster of its own, there is no slack, and the graph is not
-- expanded
abbrev pub bare_graph : Text → GraphJob
bare_graph net = record { net = net; clusters = Each; groups = None; slack = 0; shake = false }

-- `replay NET VEC LOG`: each register is a cluster of its own, there is no slack, and open latches
-- are not shown
abbrev pub bare_replay : Text → Text → Text → ReplayJob
bare_replay net vec log = record {
  net = net;
  vec = vec;
  log = log;
  graph = None;
  clusters = Each;
  groups = None;
  slack = 0;
  transparent = false;
}

-- `accept NET G`: each register is a cluster of its own, and there is no slack
abbrev pub bare_accept : Text → Text → AcceptJob
bare_accept net graph = record {
  net = net;
  graph = graph;
  clusters = Each;
  groups = None;
  slack = 0;
}

-- `period NET D`: no graph is named, each register is a cluster of its own, and there is no slack
abbrev pub bare_period : Text → Text → PeriodJob
bare_period net delays = record {
  net = net;
  delays = delays;
  graph = None;
  clusters = Each;
  groups = None;
  slack = 0;
}

-- `clusters NET`: each register is a cluster of its own
abbrev pub bare_clusters : Text → ClustersJob
bare_clusters net = record { net = net; clusters = Each; groups = None }

-- `times NET D TURNS`: no graph is named, each register is a cluster of its own, and there is no
-- slack
abbrev pub bare_times : Text → Text → ℕ → TimesJob
bare_times net delays turns = record {
  net = net;
  delays = delays;
  turns = turns;
  graph = None;
  clusters = Each;
  groups = None;
  slack = 0;
}
