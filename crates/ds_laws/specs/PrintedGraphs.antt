-- What `graph` prints, `accept` takes.
use Rattle.std.specs.Prelude.{◌≡◌, ℕ, ◌≤◌, List, length, Some}
use Rattle.ds_base.specs.Limit.{most_of}
use Rattle.ds_base.specs.declared.number.Limit.TheVariants.{Bytes}
use Rattle.ds_outside.specs.Held.{Held, bytes}
use Rattle.ds_marked.specs.Graph.{Graph}
use Rattle.ds_design.specs.Circuit.{Circuit}
use Rattle.ds_latch.specs.Node.{Split, slackened}
use Rattle.ds_cmd.specs.Allowed.{AreAllowed}
use Rattle.ds_cmd.specs.declared.accept.AcceptJob.{AcceptJob}
use Rattle.ds_cmd.specs.declared.graph.GraphJob.{GraphJob}
use Rattle.ds_cmd.specs.declared.job.Job.TheVariants.{Accept, Graph as GraphCommand}
use Rattle.ds_stage.specs.GraphStage.{drawn_stage, wanted_stage}
use Rattle.ds_stage.specs.PlanStage.{planned_stage}
use Rattle.ds_stage.specs.SplitStage.{split_stage}
use Rattle.ds_stage.specs.Stages.{netlist_stage}
use Rattle.ds_app.specs.Job.{stages_of}
use Rattle.ds_app.specs.Status.{AreTold}

-- a graph of a split design with the slack of the job is printed, and the file with its text gives
-- the plan of the same split design with the same graph
pub record IsReadBack (held : List ℕ → Held) (job : GraphJob) (graph printed : List ℕ)
    : Type 0 where
  pub circuit : Circuit
  pub split : Split
  pub printed_graph : Graph
  pub is_circuit : (netlist_stage held job.net).means circuit
  pub is_split : (split_stage held job.net job.groups job.clusters circuit).means split
  pub is_graph : (wanted_stage job.net job.shake (slackened split job.slack)).means printed_graph
  pub is_text : (drawn_stage (slackened split job.slack) printed_graph).means printed
  pub is_plan : (planned_stage held job.net (Some graph) job.groups job.clusters job.slack
      circuit).means (record { split = slackened split job.slack; graph = printed_graph })

-- what `graph` prints, with `--shake` or without, is read as the graph that was printed, where the
-- file of the graph holds these bytes and is not too long
abbrev pub PrintedGraphsAreRead : Type 0
PrintedGraphsAreRead = (held : List ℕ → Held) (job : GraphJob) (graph printed : List ℕ)
    → AreAllowed (GraphCommand job) → AreTold held (GraphCommand job)
    → (stages_of held (GraphCommand job)).means printed
    → held graph ≡ bytes printed → length printed ≤ most_of Bytes
    → IsReadBack held job graph printed

-- `accept` of the netlist, the clusters, the groups and the slack of a graph, by the graph of a
-- file
abbrev pub accept_after : GraphJob → List ℕ → AcceptJob
accept_after job graph = record {
  net = job.net;
  graph = graph;
  clusters = job.clusters;
  groups = job.groups;
  slack = job.slack;
}

-- so `accept` of the same netlist, clusters, groups and slack does not refuse it
abbrev pub PrintedGraphsAreTaken : Type 0
PrintedGraphsAreTaken = (held : List ℕ → Held) (job : GraphJob) (graph printed : List ℕ)
    → AreAllowed (GraphCommand job) → AreTold held (GraphCommand job)
    → (stages_of held (GraphCommand job)).means printed
    → held graph ≡ bytes printed → length printed ≤ most_of Bytes
    → (line : List ℕ) → ¬ (stages_of held (Accept (accept_after job graph))).refused line

-- so `accept` of what `graph` prints has a text: the ranks of its events
abbrev pub PrintedGraphsHaveRanks : Type 0
PrintedGraphsHaveRanks = (held : List ℕ → Held) (job : GraphJob) (graph printed : List ℕ)
    → AreAllowed (GraphCommand job) → AreTold held (GraphCommand job)
    → (stages_of held (GraphCommand job)).means printed
    → held graph ≡ bytes printed → length printed ≤ most_of Bytes
    → (text : List ℕ) × (stages_of held (Accept (accept_after job graph))).means text
