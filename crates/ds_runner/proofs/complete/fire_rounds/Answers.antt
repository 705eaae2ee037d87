use Rattle.ds_runner.proofs.WorkLemmas.{rounds_end, shrinks}
use Rattle.ds_runner.proofs.complete.fire_rounds.Goals as goal

pub rounds-smaller : goal.rounds-smaller
rounds-smaller g c = shrinks c.args.workload.now.run c.rounds.pass.view c.go_round-busy.new.pass.view c.go_round-busy.result
    c.go_round-busy.ensures.told c.if-not-busy.false

pub returns-then-not-busy-clause-done : goal.returns-then-not-busy-clause-done
returns-then-not-busy-clause-done g c short e near = let (sound, accepted) = c.requires.accepted in
    rounds_end c.args.workload.now.run sound accepted
    c.rounds.pass.view c.go_round-busy.new.pass.view c.go_round-busy.result c.go_round-busy.ensures.told
    c.if-not-busy.true e near
