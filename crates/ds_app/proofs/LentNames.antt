-- How a job ends, by the names that were lent of it.
use Rattle.std.proofs.Common.{◌≡◌, ◌∙◌, ℕ, List, Result, ap, ap₂, subst}
use Rattle.ds_outside.specs.Held.{Held}
use Rattle.ds_cmd.specs.declared.accept.AcceptJob.{AcceptJob}
use Rattle.ds_cmd.specs.declared.clock.ClockJob.{ClockJob}
use Rattle.ds_cmd.specs.declared.graph.GraphJob.{GraphJob}
use Rattle.ds_cmd.specs.declared.list_clusters.ClustersJob.{ClustersJob}
use Rattle.ds_cmd.specs.declared.period.PeriodJob.{PeriodJob}
use Rattle.ds_cmd.specs.declared.replay.ReplayJob.{ReplayJob}
use Rattle.ds_cmd.specs.declared.times.TimesJob.{TimesJob}
use Rattle.ds_stage.specs.declared.stop.Stop.{Stop}
use Rattle.ds_stage.specs.Ends.{Ends, Output}
use Rattle.ds_stage.specs.Stage.{OfFile, then_stage}
use Rattle.ds_stage.specs.Stages.{netlist_stage}
use Rattle.ds_app.specs.JobStages.{accept_stage, clock_stage, graph_stage, listing_stage, period_stage, replay_stage, times_stage}

module _ (held : List ℕ → Held) (more : OfFile) (out : Output) (result : Result (Unit {0}) Stop) where
  pub clock_ends : (job : ClockJob) (net vec : List ℕ) → net ≡ job.net → vec ≡ job.vec
      → Ends {A = Unit {0}} (then_stage (netlist_stage held net) (clock_stage held vec)) more out result
      → Ends {A = Unit {0}} (then_stage (netlist_stage held job.net) (clock_stage held job.vec)) more out result
  clock_ends job net vec same_net same_vec is = subst (λ (j : ClockJob). Ends {A = Unit {0}} (then_stage (netlist_stage held j.net) (clock_stage held j.vec)) more out result)
      (ap₂ (λ (n v : List ℕ). record job { net = n; vec = v }) same_net same_vec) is

  pub graph_ends : (job : GraphJob) (net : List ℕ) → net ≡ job.net
      → Ends {A = Unit {0}} (then_stage (netlist_stage held net) (graph_stage held (record job { net = net }))) more out result
      → Ends {A = Unit {0}} (then_stage (netlist_stage held job.net) (graph_stage held job)) more out result
  graph_ends job net same_net is = subst (λ (j : GraphJob). Ends {A = Unit {0}} (then_stage (netlist_stage held j.net) (graph_stage held j)) more out result)
      (ap (λ (n : List ℕ). record job { net = n }) same_net) is

  pub replay_ends : (job : ReplayJob) (net vec log : List ℕ) → net ≡ job.net → vec ≡ job.vec → log ≡ job.log
      → Ends {A = Unit {0}} (then_stage (netlist_stage held net) (replay_stage held (record job { net = net; vec = vec; log = log }))) more out result
      → Ends {A = Unit {0}} (then_stage (netlist_stage held job.net) (replay_stage held job)) more out result
  replay_ends job net vec log same_net same_vec same_log is = subst (λ (j : ReplayJob). Ends {A = Unit {0}} (then_stage (netlist_stage held j.net) (replay_stage held j)) more out result)
      (ap₂ (λ (n v : List ℕ). record job { net = n; vec = v; log = log }) same_net same_vec ∙ ap (λ (l : List ℕ). record job { log = l }) same_log) is

  pub accept_ends : (job : AcceptJob) (net graph : List ℕ) → net ≡ job.net → graph ≡ job.graph
      → Ends {A = Unit {0}} (then_stage (netlist_stage held net) (accept_stage held (record job { net = net; graph = graph }))) more out result
      → Ends {A = Unit {0}} (then_stage (netlist_stage held job.net) (accept_stage held job)) more out result
  accept_ends job net graph same_net same_graph is = subst (λ (j : AcceptJob). Ends {A = Unit {0}} (then_stage (netlist_stage held j.net) (accept_stage held j)) more out result)
      (ap₂ (λ (n k : List ℕ). record job { net = n; graph = k }) same_net same_graph) is

  pub period_ends : (job : PeriodJob) (net delays : List ℕ) → net ≡ job.net → delays ≡ job.delays
      → Ends {A = Unit {0}} (then_stage (netlist_stage held net) (period_stage held (record job { net = net; delays = delays }))) more out result
      → Ends {A = Unit {0}} (then_stage (netlist_stage held job.net) (period_stage held job)) more out result
  period_ends job net delays same_net same_delays is = subst (λ (j : PeriodJob). Ends {A = Unit {0}} (then_stage (netlist_stage held j.net) (period_stage held j)) more out result)
      (ap₂ (λ (n d : List ℕ). record job { net = n; delays = d }) same_net same_delays) is

  pub listing_ends : (job : ClustersJob) (net : List ℕ) → net ≡ job.net
      → Ends {A = Unit {0}} (then_stage (netlist_stage held net) (listing_stage held (record job { net = net }))) more out result
      → Ends {A = Unit {0}} (then_stage (netlist_stage held job.net) (listing_stage held job)) more out result
  listing_ends job net same_net is = subst (λ (j : ClustersJob). Ends {A = Unit {0}} (then_stage (netlist_stage held j.net) (listing_stage held j)) more out result)
      (ap (λ (n : List ℕ). record job { net = n }) same_net) is

  pub times_ends : (job : TimesJob) (net : List ℕ) → net ≡ job.net
      → Ends {A = Unit {0}} (then_stage (netlist_stage held net) (times_stage held (record job { net = net }))) more out result
      → Ends {A = Unit {0}} (then_stage (netlist_stage held job.net) (times_stage held job)) more out result
  times_ends job net same_net is = subst (λ (j : TimesJob). Ends {A = Unit {0}} (then_stage (netlist_stage held j.net) (times_stage held j)) more out result)
      (ap (λ (n : List ℕ). record job { net = n }) same_net) is
