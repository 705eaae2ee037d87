use Rattle.std.proofs.Common.{arith}
use Rattle.ds_runner.proofs.HiringLemmas.{are_alone, is_worker_pool, opened_fits}
use Rattle.ds_runner.proofs.make_pool.make_pool.Goals as goal

pub build-requires-clause-some : goal.build-requires-clause-some
build-requires-clause-some g c = omega (arith, c.in_ok-passes.ensures.ok_size, c.requires.count)

pub build-requires-clause-alone : goal.build-requires-clause-alone
build-requires-clause-alone g c =
    are_alone c.args.workload.now c.in_ok-passes.passes.items c.in_ok-passes.ensures.ok (omega (arith, c.in_ok-passes.ensures.ok_size, c.requires.count))

pub make_workers_and_stealers-requires-clause-fits : goal.make_workers_and_stealers-requires-clause-fits
make_workers_and_stealers-requires-clause-fits g c κs within = (
  opened_fits c.args.workload.now c.in_ok-passes.passes.items c.in_ok-stile.stile c.in_ok-passes.ensures.ok
      (omega (arith, c.in_ok-passes.ensures.ok_size, c.requires.count)) c.in_ok-passes.ensures.ok_size c.in_ok-stile.ensures.ok.given_is,
  c.in_ok-stile.ensures.ok.belongs,
)

pub returns-clause-ok : goal.returns-clause-ok
returns-clause-ok g c = let (some, _, nodes) = c.requires.count in
    is_worker_pool c.args.workload.now _ c.in_ok-passes.passes.items c.in_ok-stile.turn c.args.count c.in_ok-passes.ensures.ok
    c.in_ok-passes.ensures.ok_size nodes c.in_ok-passes.ensures.ok_unfired c.in_ok-stile.ensures.ok
    c.in_ok-workers.ensures.ok_turn c.in_ok-workers.ensures.ok some c.in_ok-stile.ensures.ok_none
    (omega (arith, c.in_ok-stile.ensures.room, c.in_ok-passes.ensures.ok_room))

pub returns-clause-ok_workers : goal.returns-clause-ok_workers
returns-clause-ok_workers g c = let (within, size) = c.in_ok-workers.ensures.ok in (size, within)
