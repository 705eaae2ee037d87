use Rattle.std.proofs.Common.{◌∙◌, [], ap, sym}
use Rattle.ds_demo.proofs.Accepts.{vectors_fit}
use Rattle.ds_design.specs.Circuit.{initial_row}
use Rattle.ds_app.proofs.DemoSplit.{made_accepted, made_not_refused}
use Rattle.ds_app.proofs.Summaries.{answer_sums, vectors_fit_netlist}
use Rattle.ds_app.proofs.demo.sums_of.Goals as goal

pub sum_run-requires-clause-width : goal.sum_run-requires-clause-width
sum_run-requires-clause-width g c _ _ =
    vectors_fit_netlist vectors_fit c.args.job.now.seed c.args.job.now.registers c.args.job.now.turns c.requires.turns c.in_ok-design.design c.in_ok-design.vectors
    c.in_ok-plan.plan.split.circuit c.in_ok-design.ensures.ok.0 c.in_ok-design.ensures.ok.1
    (c.in_ok-plan.ensures.netlist ∙ c.in_ok-netlist.ensures)

pub sum_run-requires-clause-start : goal.sum_run-requires-clause-start
sum_run-requires-clause-start g c _ _ = c.in_ok-plan.ensures.start ∙ ap initial_row (sym c.in_ok-plan.ensures.netlist)

pub sum_run-requires-clause-jobs : goal.sum_run-requires-clause-jobs
sum_run-requires-clause-jobs g c _ _ = c.requires.jobs

pub returns : goal.returns
returns g c =
    answer_sums vectors_fit c.args.job.now.seed c.args.job.now.registers c.args.job.now.turns c.requires.turns c.in_ok-design.design c.in_ok-design.vectors
    c.in_ok-plan.plan c.in_ok-design.ensures.ok.0 c.in_ok-design.ensures.ok.1 (c.in_ok-plan.ensures.netlist ∙ c.in_ok-netlist.ensures)
    c.sum_run.result c.sum_run.ensures

pub netlist_of-requires : goal.netlist_of-requires
netlist_of-requires g c =
    made_accepted c.args.job.now.seed c.args.job.now.registers c.requires.registers.0 c.in_ok-design.design c.in_ok-design.ensures.ok.0

pub plan_for-requires : goal.plan_for-requires
plan_for-requires g c line refused =
    made_not_refused c.args.job.now.seed c.args.job.now.registers c.requires.registers.0 c.requires.registers.1 []
    c.in_ok-netlist.netlist (c.in_ok-netlist.ensures ∙ c.in_ok-design.ensures.ok.0) line refused
