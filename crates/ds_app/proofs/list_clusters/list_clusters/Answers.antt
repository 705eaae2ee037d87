use Rattle.std.proofs.Common.{◌∙◌, ℕ, List, Err, refl, subst}
use Rattle.std.proofs.lemmas.Result.{err_from_is_err_and}
use Rattle.ds_outside.specs.Held.{Held}
use Rattle.ds_outside.specs.declared.files.Which.{Which}
use Rattle.ds_design.specs.Circuit.{Circuit}
use Rattle.ds_cmd.specs.declared.list_clusters.ClustersJob.{ClustersJob}
use Rattle.ds_stage.specs.Stage.{OfFile, then_stage}
use Rattle.ds_stage.specs.Stages.{netlist_stage}
use Rattle.ds_stage.specs.Ends.{Answers, Ends, Never, Output, RoseIn, output_between}
use Rattle.ds_stage.specs.declared.stop.Stop.{Stop}
use Rattle.ds_stage.proofs.Stages.{stopped, passed, widened}
use Rattle.ds_stage.proofs.FaultCounts.{unwritten_or, well_read}
use Rattle.ds_app.proofs.FaultCountsSince.{unread_since}
use Rattle.ds_stage.specs.ClustersStage.{clustered_stage, listed_stage}
use Rattle.ds_stage.proofs.StageEnds.{clustered_since, ended, ends_after, ends_more}
use Rattle.ds_stage.proofs.StagesLeaveNothing.{giving_nothing}
use Rattle.ds_app.specs.JobStages.{listing_stage}
use Rattle.ds_app.proofs.LeftAlone.{listing_nothing}
use Rattle.ds_app.proofs.LentNames.{listing_ends}
use Rattle.ds_app.proofs.list_clusters.list_clusters.Goals as goal

pub returns-in_err-netlist-clause-value : goal.returns-in_err-netlist-clause-value
returns-in_err-netlist-clause-value g c =
    let held : List ℕ → Held = g.F.Files.held c.args.files.now in
    let job : ClustersJob = record c.args.job.now { net = c.as_str-net.result.now } in
    let more : OfFile = RoseIn (g.F.Files.faults c.args.files.now) (g.F.Files.faults c.read_netlist.new.files) in
    let p = err_from_is_err_and c.from_residual.result c.from_residual.ensures.1 in
    let out : Output = (output_between g.O.Sink.written g.O.Sink.faults c.args.out.now c.args.out.now) in
    rw (p.1, p.2) (listing_ends held more out (Err c.in_err-netlist.field-0.0) c.args.job.now _ c.as_str-net.ensures
    (ended (Unit {0}) (then_stage (netlist_stage held job.net) (listing_stage held job)) more out c.in_err-netlist.field-0.0 (listing_nothing held job) refl
    (stopped (netlist_stage held job.net) (listing_stage held job) more c.in_err-netlist.field-0.0 c.in_err-netlist.ensures.value)))

pub returns-in_err-clusters-clause-value : goal.returns-in_err-clusters-clause-value
returns-in_err-clusters-clause-value g c =
    let held : List ℕ → Held = g.F.Files.held c.args.files.now in
    let later : List ℕ → Held = g.F.Files.held c.read_netlist.new.files in
    let job : ClustersJob = record c.args.job.now { net = c.as_str-net.result.now } in
    let before : Which → List ℕ → ℕ = g.F.Files.faults c.args.files.now in
    let mid : Which → List ℕ → ℕ = g.F.Files.faults c.read_netlist.new.files in
    let now : Which → List ℕ → ℕ = g.F.Files.faults c.cluster_netlist.new.files in
    let more : OfFile = RoseIn before now in
    let circuit : Circuit = c.in_ok-netlist.netlist in
    let stop : Stop = c.in_err-clusters.field-0.0 in
    let p = err_from_is_err_and c.from_residual-in_err-clusters.result c.from_residual-in_err-clusters.ensures.1 in
    let few : Answers {A = List (List ℕ)} (clustered_stage held job.net job.groups job.clusters circuit) more (Err stop) =
    widened {A = List (List ℕ)} (clustered_stage later job.net job.groups job.clusters circuit) (clustered_stage held job.net job.groups job.clusters circuit) (RoseIn mid now) more
    (clustered_since held later before mid now c.in_ok-netlist.ensures.same_held c.in_ok-netlist.ensures.never_falls job.net job.groups job.clusters circuit) (Err stop) c.in_err-clusters.ensures.value in
    let out : Output = (output_between g.O.Sink.written g.O.Sink.faults c.args.out.now c.args.out.now) in
    rw (p.1, p.2) (listing_ends held more out (Err stop) c.args.job.now _ c.as_str-net.ensures
    (ended (Unit {0}) (then_stage (netlist_stage held job.net) (listing_stage held job)) more out stop (listing_nothing held job) refl
    (passed {B = List ℕ} (netlist_stage held job.net) (listing_stage held job) more circuit c.in_ok-netlist.ensures.value (Err stop)
    (stopped (clustered_stage held job.net job.groups job.clusters circuit) (listed_stage circuit) more stop few))))

pub list-requires : goal.list-requires
list-requires g c = let (groups, are, (is, few)) = c.in_ok-clusters.ensures.value in is.each_once.within

pub returns-clause-value : goal.returns-clause-value
returns-clause-value g c =
    let held : List ℕ → Held = g.F.Files.held c.args.files.now in
    let later : List ℕ → Held = g.F.Files.held c.read_netlist.new.files in
    let job : ClustersJob = record c.args.job.now { net = c.as_str-net.result.now } in
    let before : Which → List ℕ → ℕ = g.F.Files.faults c.args.files.now in
    let mid : Which → List ℕ → ℕ = g.F.Files.faults c.read_netlist.new.files in
    let now : Which → List ℕ → ℕ = g.F.Files.faults c.cluster_netlist.new.files in
    let more : OfFile = RoseIn before now in
    let circuit : Circuit = c.in_ok-netlist.netlist in
    let clusters : List (List ℕ) = c.in_ok-clusters.clusters in
    let means : (clustered_stage held job.net job.groups job.clusters circuit).means clusters =
    (clustered_since held later before mid now c.in_ok-netlist.ensures.same_held c.in_ok-netlist.ensures.never_falls job.net job.groups job.clusters circuit).means clusters c.in_ok-clusters.ensures.value in
    let out : Output = (output_between g.O.Sink.written g.O.Sink.faults c.args.out.now c.list.new.out) in
    let last : Ends (listed_stage circuit clusters) more out c.list.result =
    ends_more (listed_stage circuit clusters) Never more out (giving_nothing (listed_stage circuit clusters).means) (λ line none. absurd none) c.list.result c.list.ensures.value in
    listing_ends held more out c.list.result c.args.job.now _ c.as_str-net.ensures
    (ends_after (netlist_stage held job.net) (listing_stage held job) more out circuit c.in_ok-netlist.ensures.value c.list.result
    (ends_after (clustered_stage held job.net job.groups job.clusters circuit) (listed_stage circuit) more out clusters means c.list.result last))

pub returns-in_err-netlist-clause-same_reads : goal.returns-in_err-netlist-clause-same_reads
returns-in_err-netlist-clause-same_reads g c = let p = err_from_is_err_and c.from_residual.result c.from_residual.ensures.1 in rw (p.1, p.2) (c.in_err-netlist.ensures.same_reads)

pub returns-in_err-netlist-clause-same_writes : goal.returns-in_err-netlist-clause-same_writes
returns-in_err-netlist-clause-same_writes g c = let p = err_from_is_err_and c.from_residual.result c.from_residual.ensures.1 in rw (p.1, p.2) (unwritten_or c.in_err-netlist.field-0.0 refl)

pub returns-in_err-clusters-clause-same_reads : goal.returns-in_err-clusters-clause-same_reads
returns-in_err-clusters-clause-same_reads g c = let p = err_from_is_err_and c.from_residual-in_err-clusters.result c.from_residual-in_err-clusters.ensures.1 in rw (p.1, p.2) (unread_since _ c.in_err-clusters.field-0.0 c.in_ok-netlist.ensures.same_reads c.in_err-clusters.ensures.same_reads)

pub returns-in_err-clusters-clause-same_writes : goal.returns-in_err-clusters-clause-same_writes
returns-in_err-clusters-clause-same_writes g c = let p = err_from_is_err_and c.from_residual-in_err-clusters.result c.from_residual-in_err-clusters.ensures.1 in rw (p.1, p.2) (unwritten_or c.in_err-clusters.field-0.0 refl)

pub returns-clause-same_reads : goal.returns-clause-same_reads
returns-clause-same_reads g c = well_read c.list.result (c.in_ok-clusters.ensures.same_reads ∙ c.in_ok-netlist.ensures.same_reads)

pub returns-clause-same_writes : goal.returns-clause-same_writes
returns-clause-same_writes g c = c.list.ensures.same_writes
