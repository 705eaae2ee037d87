-- Behind the groups, the clusters.
use Rattle.std.proofs.Common.{ℕ, List, Option, Err}
use Rattle.std.proofs.lemmas.Result.{err_from_is_err_and}
use Rattle.ds_base.specs.declared.number.Mode.{Mode}
use Rattle.ds_design.specs.Circuit.{Circuit}
use Rattle.ds_stage.specs.Stage.{OfFile}
use Rattle.ds_stage.specs.GroupsStage.{groups_stage}
use Rattle.ds_stage.specs.ClustersStage.{clusters_stage}
use Rattle.ds_stage.specs.Ends.{Answers, Never, RoseIn}
use Rattle.ds_stage.specs.declared.stop.Stop.{Stop}
use Rattle.ds_stage.proofs.Stages.{passed, stopped, widened}
use Rattle.ds_stage.proofs.StageEnds.{no_more}
use Rattle.ds_stage.proofs.FaultCounts.{well_read}
use Rattle.ds_stage.proofs.split.cluster_netlist.Goals as goal

pub returns-in_err-groups-clause-value : goal.returns-in_err-groups-clause-value
returns-in_err-groups-clause-value g c =
    let held = g.F.Files.held c.args.files.now in
    let more : OfFile = RoseIn (g.F.Files.faults c.args.files.now) (g.F.Files.faults c.wanted_groups.new.files) in
    let p = err_from_is_err_and c.from_residual.result c.from_residual.ensures.1 in
    rw (p.1, p.2) (stopped (groups_stage held c.args.splitting.groups.now c.args.netlist.now)
    (clusters_stage c.args.file.now c.args.splitting.clusters c.args.netlist.now) more c.in_err-groups.field-0.0 c.in_err-groups.ensures.value)

pub returns-clause-value : goal.returns-clause-value
returns-clause-value g c =
    let held = g.F.Files.held c.args.files.now in
    let file : List ℕ = c.args.file.now in
    let mode : Mode = c.args.splitting.clusters in
    let circuit : Circuit = c.args.netlist.now in
    let groups : List (List ℕ) = c.in_ok-groups.groups in
    let more : OfFile = RoseIn (g.F.Files.faults c.args.files.now) (g.F.Files.faults c.wanted_groups.new.files) in
    passed (groups_stage held c.args.splitting.groups.now circuit) (clusters_stage file mode circuit) more groups c.in_ok-groups.ensures.value c.clusters_by.result
    (widened {A = List (List ℕ)} (clusters_stage file mode circuit groups) (clusters_stage file mode circuit groups) Never more
    (no_more (clusters_stage file mode circuit groups) more (λ line none. absurd none)) c.clusters_by.result c.clusters_by.ensures)

pub returns-in_err-groups-clause-same_reads : goal.returns-in_err-groups-clause-same_reads
returns-in_err-groups-clause-same_reads g c =
    let p = err_from_is_err_and c.from_residual.result c.from_residual.ensures.1 in
    rw (p.1, p.2) c.in_err-groups.ensures.same_reads

pub returns-clause-same_reads : goal.returns-clause-same_reads
returns-clause-same_reads g c = well_read c.clusters_by.result c.in_ok-groups.ensures.same_reads
