use Rattle.ds_fabric.specs.declared.step.Step.TheVariants.{Fired, NotYet, Done}
use Rattle.ds_runner.proofs.WorkLemmas.{advances}
use Rattle.ds_runner.proofs.TicketCounts.{tickets-step}
use Rattle.ds_runner.proofs.complete.fire_next.Goals as goal

pub returns-in-Fired-clause-told : goal.returns-in-Fired-clause-told
returns-in-Fired-clause-told g c = let f = c.in-Fired in let q = c.requires in
    advances c.args.workload.now.run c.args.pass.now.view c.step_at_gate.new.pass.view c.args.node
    (Fired f.event f.turn f.ticket) q.sound q.fits.run q.all.0 q.all.1 f.ensures.step

pub returns-in-NotYet-clause-told : goal.returns-in-NotYet-clause-told
returns-in-NotYet-clause-told g c = let f = c.in-NotYet in let q = c.requires in
    advances c.args.workload.now.run c.args.pass.now.view c.step_at_gate.new.pass.view c.args.node
    (NotYet f.arc f.seen) q.sound q.fits.run q.all.0 q.all.1 f.ensures.step

pub returns-in-Done-clause-told : goal.returns-in-Done-clause-told
returns-in-Done-clause-told g c = let q = c.requires in
    advances c.args.workload.now.run c.args.pass.now.view c.step_at_gate.new.pass.view c.args.node
    Done q.sound q.fits.run q.all.0 q.all.1 c.in-Done.ensures.step

pub returns-in-Fired-clause-fired : goal.returns-in-Fired-clause-fired
returns-in-Fired-clause-fired g c = let f = c.in-Fired in let q = c.requires in
    tickets-step c.args.workload.now.run c.args.pass.now.view c.args.node
    (Fired f.event f.turn f.ticket) c.step_at_gate.new.pass.view q.sound q.fits.run q.all.1 f.ensures.step

pub returns-in-NotYet-clause-fired : goal.returns-in-NotYet-clause-fired
returns-in-NotYet-clause-fired g c = let f = c.in-NotYet in let q = c.requires in
    tickets-step c.args.workload.now.run c.args.pass.now.view c.args.node
    (NotYet f.arc f.seen) c.step_at_gate.new.pass.view q.sound q.fits.run q.all.1 f.ensures.step

pub returns-in-Done-clause-fired : goal.returns-in-Done-clause-fired
returns-in-Done-clause-fired g c = let f = c.in-Done in let q = c.requires in
    tickets-step c.args.workload.now.run c.args.pass.now.view c.args.node
    Done c.step_at_gate.new.pass.view q.sound q.fits.run q.all.1 f.ensures.step
