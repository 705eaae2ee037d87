use Rattle.std.proofs.Common.{ℕ, List, refl, subst}
use Rattle.ds_cmd.specs.Allowed.{AreAllowed}
use Rattle.ds_cmd.specs.declared.job.Job.TheVariants.{Demo}
use Rattle.ds_stage.specs.Stage.{OfFile}
use Rattle.ds_app.specs.DemoStage.{IsSummary}
use Rattle.ds_stage.specs.Ends.{Output, RoseIn, output_between}
use Rattle.ds_stage.proofs.StageEnds.{gives_more}
use Rattle.ds_stage.proofs.FaultCounts.{well_read}
use Rattle.ds_app.proofs.app.do_job.Goals as goal

pub returns-in-Run-clause-value : goal.returns-in-Run-clause-value
returns-in-Run-clause-value g c = rw c.in-Run.is c.run.ensures.value

pub returns-in-Clock-clause-value : goal.returns-in-Clock-clause-value
returns-in-Clock-clause-value g c = rw c.in-Clock.is c.clock.ensures.value

pub returns-in-Check-clause-value : goal.returns-in-Check-clause-value
returns-in-Check-clause-value g c = rw c.in-Check.is c.check.ensures.value

pub returns-in-Graph-clause-value : goal.returns-in-Graph-clause-value
returns-in-Graph-clause-value g c = rw c.in-Graph.is c.graph.ensures.value

pub returns-in-Replay-clause-value : goal.returns-in-Replay-clause-value
returns-in-Replay-clause-value g c = rw c.in-Replay.is c.replay.ensures.value

pub returns-in-Accept-clause-value : goal.returns-in-Accept-clause-value
returns-in-Accept-clause-value g c = rw c.in-Accept.is c.accept.ensures.value

pub returns-in-Period-clause-value : goal.returns-in-Period-clause-value
returns-in-Period-clause-value g c = rw c.in-Period.is c.period.ensures.value

pub run-requires-clause-jobs : goal.run-requires-clause-jobs
run-requires-clause-jobs g c _ _ = (subst AreAllowed c.in-Run.is c.requires).0

pub run-requires-clause-slack : goal.run-requires-clause-slack
run-requires-clause-slack g c _ _ = (subst AreAllowed c.in-Run.is c.requires).1

pub replay-requires-clause-slack : goal.replay-requires-clause-slack
replay-requires-clause-slack g c = (subst AreAllowed c.in-Replay.is c.requires).0

pub replay-requires-clause-shown : goal.replay-requires-clause-shown
replay-requires-clause-shown g c = (subst AreAllowed c.in-Replay.is c.requires).1

pub graph-requires : goal.graph-requires
graph-requires g c = (subst AreAllowed c.in-Graph.is c.requires).0

pub accept-requires : goal.accept-requires
accept-requires g c = subst AreAllowed c.in-Accept.is c.requires

pub period-requires : goal.period-requires
period-requires g c = subst AreAllowed c.in-Period.is c.requires

pub demo-requires-clause-registers : goal.demo-requires-clause-registers
demo-requires-clause-registers g c _ _ =
    let allowed : AreAllowed (Demo c.in-Demo.job) = subst AreAllowed c.in-Demo.is c.requires in (allowed.0, allowed.1)

pub demo-requires-clause-turns : goal.demo-requires-clause-turns
demo-requires-clause-turns g c _ _ = (subst AreAllowed c.in-Demo.is c.requires).2

pub demo-requires-clause-jobs : goal.demo-requires-clause-jobs
demo-requires-clause-jobs g c _ _ = (subst AreAllowed c.in-Demo.is c.requires).3

pub returns-in-Demo-clause-value : goal.returns-in-Demo-clause-value
returns-in-Demo-clause-value g c =
    let more : OfFile = RoseIn (g.F.Files.faults c.args.files.now) (g.F.Files.faults c.args.files.now) in
    let out : Output = (output_between g.O.Sink.written g.O.Sink.faults c.args.out.now c.demo.new.out) in
    let summary : List ℕ → Type 0 = IsSummary c.in-Demo.job.seed c.in-Demo.job.registers c.in-Demo.job.turns in
    rw c.in-Demo.is (gives_more summary summary more out (λ text is. is) c.demo.result c.demo.ensures.value)

pub returns-in-Run-clause-same_held : goal.returns-in-Run-clause-same_held
returns-in-Run-clause-same_held g c = c.run.ensures.same_held

pub returns-in-Clock-clause-same_held : goal.returns-in-Clock-clause-same_held
returns-in-Clock-clause-same_held g c = c.clock.ensures.same_held

pub returns-in-Check-clause-same_held : goal.returns-in-Check-clause-same_held
returns-in-Check-clause-same_held g c = c.check.ensures.same_held

pub returns-in-Graph-clause-same_held : goal.returns-in-Graph-clause-same_held
returns-in-Graph-clause-same_held g c = c.graph.ensures.same_held

pub returns-in-Replay-clause-same_held : goal.returns-in-Replay-clause-same_held
returns-in-Replay-clause-same_held g c = c.replay.ensures.same_held

pub returns-in-Accept-clause-same_held : goal.returns-in-Accept-clause-same_held
returns-in-Accept-clause-same_held g c = c.accept.ensures.same_held

pub returns-in-Period-clause-same_held : goal.returns-in-Period-clause-same_held
returns-in-Period-clause-same_held g c = c.period.ensures.same_held

pub returns-in-Demo-clause-same_held : goal.returns-in-Demo-clause-same_held
returns-in-Demo-clause-same_held g c = refl

pub returns-in-Run-clause-same_reads : goal.returns-in-Run-clause-same_reads
returns-in-Run-clause-same_reads g c = c.run.ensures.same_reads

pub returns-in-Run-clause-same_writes : goal.returns-in-Run-clause-same_writes
returns-in-Run-clause-same_writes g c = c.run.ensures.same_writes

pub returns-in-Clock-clause-same_reads : goal.returns-in-Clock-clause-same_reads
returns-in-Clock-clause-same_reads g c = c.clock.ensures.same_reads

pub returns-in-Clock-clause-same_writes : goal.returns-in-Clock-clause-same_writes
returns-in-Clock-clause-same_writes g c = c.clock.ensures.same_writes

pub returns-in-Check-clause-same_reads : goal.returns-in-Check-clause-same_reads
returns-in-Check-clause-same_reads g c = c.check.ensures.same_reads

pub returns-in-Check-clause-same_writes : goal.returns-in-Check-clause-same_writes
returns-in-Check-clause-same_writes g c = c.check.ensures.same_writes

pub returns-in-Graph-clause-same_reads : goal.returns-in-Graph-clause-same_reads
returns-in-Graph-clause-same_reads g c = c.graph.ensures.same_reads

pub returns-in-Graph-clause-same_writes : goal.returns-in-Graph-clause-same_writes
returns-in-Graph-clause-same_writes g c = c.graph.ensures.same_writes

pub returns-in-Replay-clause-same_reads : goal.returns-in-Replay-clause-same_reads
returns-in-Replay-clause-same_reads g c = c.replay.ensures.same_reads

pub returns-in-Replay-clause-same_writes : goal.returns-in-Replay-clause-same_writes
returns-in-Replay-clause-same_writes g c = c.replay.ensures.same_writes

pub returns-in-Accept-clause-same_reads : goal.returns-in-Accept-clause-same_reads
returns-in-Accept-clause-same_reads g c = c.accept.ensures.same_reads

pub returns-in-Accept-clause-same_writes : goal.returns-in-Accept-clause-same_writes
returns-in-Accept-clause-same_writes g c = c.accept.ensures.same_writes

pub returns-in-Period-clause-same_reads : goal.returns-in-Period-clause-same_reads
returns-in-Period-clause-same_reads g c = c.period.ensures.same_reads

pub returns-in-Period-clause-same_writes : goal.returns-in-Period-clause-same_writes
returns-in-Period-clause-same_writes g c = c.period.ensures.same_writes

pub returns-in-Demo-clause-same_reads : goal.returns-in-Demo-clause-same_reads
returns-in-Demo-clause-same_reads g c = well_read c.demo.result refl

pub returns-in-Demo-clause-same_writes : goal.returns-in-Demo-clause-same_writes
returns-in-Demo-clause-same_writes g c = c.demo.ensures.same_writes

pub returns-in-Clusters-clause-value : goal.returns-in-Clusters-clause-value
returns-in-Clusters-clause-value g c = rw c.in-Clusters.is c.list_clusters.ensures.value

pub returns-in-Clusters-clause-same_held : goal.returns-in-Clusters-clause-same_held
returns-in-Clusters-clause-same_held g c = c.list_clusters.ensures.same_held

pub returns-in-Clusters-clause-same_reads : goal.returns-in-Clusters-clause-same_reads
returns-in-Clusters-clause-same_reads g c = c.list_clusters.ensures.same_reads

pub returns-in-Clusters-clause-same_writes : goal.returns-in-Clusters-clause-same_writes
returns-in-Clusters-clause-same_writes g c = c.list_clusters.ensures.same_writes

pub returns-in-Rate-clause-value : goal.returns-in-Rate-clause-value
returns-in-Rate-clause-value g c = rw c.in-Rate.is c.rate.ensures.value

pub returns-in-Rate-clause-same_held : goal.returns-in-Rate-clause-same_held
returns-in-Rate-clause-same_held g c = c.rate.ensures.same_held

pub returns-in-Rate-clause-same_reads : goal.returns-in-Rate-clause-same_reads
returns-in-Rate-clause-same_reads g c = c.rate.ensures.same_reads

pub returns-in-Rate-clause-same_writes : goal.returns-in-Rate-clause-same_writes
returns-in-Rate-clause-same_writes g c = c.rate.ensures.same_writes

pub times-requires-clause-turns : goal.times-requires-clause-turns
times-requires-clause-turns g c = (subst AreAllowed c.in-Times.is c.requires).0

pub times-requires-clause-slack : goal.times-requires-clause-slack
times-requires-clause-slack g c = (subst AreAllowed c.in-Times.is c.requires).1

pub returns-in-Times-clause-value : goal.returns-in-Times-clause-value
returns-in-Times-clause-value g c = rw c.in-Times.is c.times.ensures.value

pub returns-in-Times-clause-same_held : goal.returns-in-Times-clause-same_held
returns-in-Times-clause-same_held g c = c.times.ensures.same_held

pub returns-in-Times-clause-same_reads : goal.returns-in-Times-clause-same_reads
returns-in-Times-clause-same_reads g c = c.times.ensures.same_reads

pub returns-in-Times-clause-same_writes : goal.returns-in-Times-clause-same_writes
returns-in-Times-clause-same_writes g c = c.times.ensures.same_writes
