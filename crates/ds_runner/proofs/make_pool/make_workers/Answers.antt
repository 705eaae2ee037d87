use Rattle.ds_runner.specs.declared.worker.Worker.{Worker}
use Rattle.ds_runner.proofs.HiringLemmas.{one_more_hired}
use Rattle.ds_runner.proofs.make_pool.make_workers.Goals as goal

pub hiring-preserved : goal.hiring-preserved
hiring-preserved g c =
    let own = c.split-own.ensures in
    let one : Worker = record { number = c.hiring.number; turn = c.split-own.result; scratch = c.in_ok-scratch.scratch; search_path = c.in_ok-scratch.search_path } in
    one_more_hired c.args.workload.now c.args.stile.now c.hiring.number c.args.count c.hiring.workers.items c.push_reserved.new.self.items
    one c.hiring.turn c.split-own.new.turn c.hiring.invariant c.hiring-test.true c.push_reserved.ensures.items
    c.push_reserved.ensures.capacity own.fits.0 own.left own.fits.1 own.new c.in_ok-scratch.ensures
