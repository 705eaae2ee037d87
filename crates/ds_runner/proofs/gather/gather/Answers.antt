use Rattle.std.proofs.Common.{◌∙◌, arith}
use Rattle.ds_runner.proofs.HiringLemmas.{closed_single}
use Rattle.ds_runner.proofs.gather.gather.Goals as goal

pub gather_all-requires-clause-passes : goal.gather_all-requires-clause-passes
gather_all-requires-clause-passes g c κs within = (
  closed_single c.args.workload.now c.args.pool.scheduler.stile c.join_all.new.turn.view.made c.close.new.into.items c.requires.pool.fits c.close.ensures,
  c.close.ensures.long ∙ c.requires.pool.fits.long,
)

pub returns-clause-fired : goal.returns-clause-fired
returns-clause-fired g c = let pool = c.requires.pool in omega (
  arith,
  c.gather_all.ensures.fired,
  c.close.ensures.sum,
  c.join_all.ensures.made,
  pool.made,
  pool.unfired,
)
