use Rattle.std.proofs.Common.{◌∙◌, ℕ, List, Err, refl, subst}
use Rattle.std.proofs.lemmas.Result.{err_from_is_err_and}
use Rattle.ds_outside.specs.Held.{Held}
use Rattle.ds_outside.specs.declared.files.Which.{Which}
use Rattle.ds_design.specs.Circuit.{Circuit}
use Rattle.ds_latch.specs.Node.{Split, slackened}
use Rattle.ds_cmd.specs.declared.graph.GraphJob.{GraphJob}
use Rattle.ds_stage.specs.Stage.{OfFile, then_stage}
use Rattle.ds_stage.specs.Stages.{netlist_stage}
use Rattle.ds_stage.specs.Ends.{Answers, Ends, Never, Output, RoseIn, output_between}
use Rattle.ds_stage.specs.declared.stop.Stop.{Stop}
use Rattle.ds_stage.proofs.Stages.{stopped, passed, widened}
use Rattle.ds_stage.proofs.FaultCounts.{unwritten_or, well_read}
use Rattle.ds_app.proofs.FaultCountsSince.{unread_since}
use Rattle.ds_stage.specs.SplitStage.{split_stage}
use Rattle.ds_stage.specs.GraphStage.{controller_stage}
use Rattle.ds_stage.proofs.StageEnds.{ended, ends_after, ends_more, split_since}
use Rattle.ds_stage.proofs.StagesLeaveNothing.{controller_nothing}
use Rattle.ds_stage.proofs.Expansions.{controller_says}
use Rattle.ds_app.specs.JobStages.{graph_stage}
use Rattle.ds_app.proofs.LeftAlone.{graph_nothing}
use Rattle.ds_app.proofs.LentNames.{graph_ends}
use Rattle.ds_app.proofs.graph.graph.Goals as goal

pub returns-in_err-netlist-clause-value : goal.returns-in_err-netlist-clause-value
returns-in_err-netlist-clause-value g c =
    let held : List ℕ → Held = g.F.Files.held c.args.files.now in
    let job : GraphJob = record c.args.job.now { net = c.as_str-net.result.now } in
    let more : OfFile = RoseIn (g.F.Files.faults c.args.files.now) (g.F.Files.faults c.read_netlist.new.files) in
    let p = err_from_is_err_and c.from_residual.result c.from_residual.ensures.1 in
    let out : Output = (output_between g.O.Sink.written g.O.Sink.faults c.args.out.now c.args.out.now) in
    rw (p.1, p.2) (graph_ends held more out (Err c.in_err-netlist.field-0.0) c.args.job.now _ c.as_str-net.ensures
    (ended (Unit {0}) (then_stage (netlist_stage held job.net) (graph_stage held job)) more out c.in_err-netlist.field-0.0 (graph_nothing held job) refl
    (stopped (netlist_stage held job.net) (graph_stage held job) more c.in_err-netlist.field-0.0 c.in_err-netlist.ensures.value)))

pub returns-in_err-latches-clause-value : goal.returns-in_err-latches-clause-value
returns-in_err-latches-clause-value g c =
    let held : List ℕ → Held = g.F.Files.held c.args.files.now in
    let later : List ℕ → Held = g.F.Files.held c.read_netlist.new.files in
    let job : GraphJob = record c.args.job.now { net = c.as_str-net.result.now } in
    let before : Which → List ℕ → ℕ = g.F.Files.faults c.args.files.now in
    let mid : Which → List ℕ → ℕ = g.F.Files.faults c.read_netlist.new.files in
    let now : Which → List ℕ → ℕ = g.F.Files.faults c.split_netlist.new.files in
    let more : OfFile = RoseIn before now in
    let circuit : Circuit = c.in_ok-netlist.netlist in
    let stop : Stop = c.in_err-latches.field-0.0 in
    let p = err_from_is_err_and c.from_residual-in_err-latches.result c.from_residual-in_err-latches.ensures.1 in
    let few : Answers {A = Split} (split_stage held job.net job.groups job.clusters circuit) more (Err stop) =
    widened {A = Split} (split_stage later job.net job.groups job.clusters circuit) (split_stage held job.net job.groups job.clusters circuit) (RoseIn mid now) more
    (split_since held later before mid now c.in_ok-netlist.ensures.same_held c.in_ok-netlist.ensures.never_falls job.net job.groups job.clusters circuit) (Err stop) c.in_err-latches.ensures.value in
    let out : Output = (output_between g.O.Sink.written g.O.Sink.faults c.args.out.now c.args.out.now) in
    rw (p.1, p.2) (graph_ends held more out (Err stop) c.args.job.now _ c.as_str-net.ensures
    (ended (Unit {0}) (then_stage (netlist_stage held job.net) (graph_stage held job)) more out stop (graph_nothing held job) refl
    (passed {B = List ℕ} (netlist_stage held job.net) (graph_stage held job) more circuit c.in_ok-netlist.ensures.value (Err stop)
    (stopped (split_stage held job.net job.groups job.clusters circuit) (λ (s : Split). controller_stage job.net job.shake (slackened s job.slack)) more stop few))))

pub returns-clause-value : goal.returns-clause-value
returns-clause-value g c =
    let held : List ℕ → Held = g.F.Files.held c.args.files.now in
    let later : List ℕ → Held = g.F.Files.held c.read_netlist.new.files in
    let job : GraphJob = record c.args.job.now { net = c.as_str-net.result.now } in
    let before : Which → List ℕ → ℕ = g.F.Files.faults c.args.files.now in
    let mid : Which → List ℕ → ℕ = g.F.Files.faults c.read_netlist.new.files in
    let now : Which → List ℕ → ℕ = g.F.Files.faults c.split_netlist.new.files in
    let more : OfFile = RoseIn before now in
    let circuit : Circuit = c.in_ok-netlist.netlist in
    let latches : Split = c.in_ok-latches.latches in
    let wanted : Split = slackened latches job.slack in
    let means : (split_stage held job.net job.groups job.clusters circuit).means latches =
    (split_since held later before mid now c.in_ok-netlist.ensures.same_held c.in_ok-netlist.ensures.never_falls job.net job.groups job.clusters circuit).means latches c.in_ok-latches.ensures.value in
    let out : Output = (output_between g.O.Sink.written g.O.Sink.faults c.args.out.now c.draw.new.out) in
    let drawn : Ends (controller_stage job.net job.shake wanted) Never out c.draw.result =
    subst (λ (s : Split). Ends (controller_stage job.net job.shake s) Never out c.draw.result) c.with_slack.ensures c.draw.ensures.value in
    let last : Ends (controller_stage job.net job.shake wanted) more out c.draw.result =
    ends_more (controller_stage job.net job.shake wanted) Never more out (controller_nothing job.net job.shake wanted) (λ line unread. absurd (controller_says job.net job.shake Never wanted line unread).is) c.draw.result drawn in
    graph_ends held more out c.draw.result c.args.job.now _ c.as_str-net.ensures
    (ends_after (netlist_stage held job.net) (graph_stage held job) more out circuit c.in_ok-netlist.ensures.value c.draw.result
    (ends_after (split_stage held job.net job.groups job.clusters circuit) (λ (s : Split). controller_stage job.net job.shake (slackened s job.slack)) more out latches means c.draw.result last))

pub returns-in_err-netlist-clause-same_reads : goal.returns-in_err-netlist-clause-same_reads
returns-in_err-netlist-clause-same_reads g c = let p = err_from_is_err_and c.from_residual.result c.from_residual.ensures.1 in rw (p.1, p.2) (c.in_err-netlist.ensures.same_reads)

pub returns-in_err-netlist-clause-same_writes : goal.returns-in_err-netlist-clause-same_writes
returns-in_err-netlist-clause-same_writes g c = let p = err_from_is_err_and c.from_residual.result c.from_residual.ensures.1 in rw (p.1, p.2) (unwritten_or c.in_err-netlist.field-0.0 refl)

pub returns-in_err-latches-clause-same_reads : goal.returns-in_err-latches-clause-same_reads
returns-in_err-latches-clause-same_reads g c = let p = err_from_is_err_and c.from_residual-in_err-latches.result c.from_residual-in_err-latches.ensures.1 in rw (p.1, p.2) (unread_since _ c.in_err-latches.field-0.0 c.in_ok-netlist.ensures.same_reads c.in_err-latches.ensures.same_reads)

pub returns-in_err-latches-clause-same_writes : goal.returns-in_err-latches-clause-same_writes
returns-in_err-latches-clause-same_writes g c = let p = err_from_is_err_and c.from_residual-in_err-latches.result c.from_residual-in_err-latches.ensures.1 in rw (p.1, p.2) (unwritten_or c.in_err-latches.field-0.0 refl)

pub returns-clause-same_reads : goal.returns-clause-same_reads
returns-clause-same_reads g c = well_read c.draw.result (c.in_ok-latches.ensures.same_reads ∙ c.in_ok-netlist.ensures.same_reads)

pub returns-clause-same_writes : goal.returns-clause-same_writes
returns-clause-same_writes g c = c.draw.ensures.same_writes
