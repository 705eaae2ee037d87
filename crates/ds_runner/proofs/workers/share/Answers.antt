use Rattle.std.proofs.Common.{◌≡◌, ◌∙◌, ℕ, ◌<◌, ◌++◌, List, All, ap, arith, drop, get_or, length, subst, sym, take}
use Rattle.ds_fabric.specs.Base.{Base}
use Rattle.ds_runner.specs.Shown.{Stile}
use Rattle.ds_runner.specs.Work.{IsWithin, IsWorker}
use Rattle.ds_runner.specs.declared.worker.Worker.{Worker}
use Rattle.ds_runner.proofs.HiringLemmas.{all_back, all_made}
use Rattle.ds_runner.proofs.WorkLemmas.{overwritten}
use Rattle.ds_runner.proofs.workers.share.Goals as goal

-- workers whom a call wrote over those that were hired are workers, and as many
all_written : (b : Base) (s : Stile) (n many : ℕ) (items now new : List Worker) → now ≡ items → length new ≡ length now
    → length items ≡ many → ((i : ℕ) (d : Worker) → i < length now → IsWithin b s n (get_or new i d))
    → All (IsWorker b s) (take many (new ++ drop (length new) items)) × (length (take many (new ++ drop (length new) items)) ≡ length items)
all_written b s n many items now new is long wide each =
    let size : length new ≡ length items = long ∙ ap (λ (ws : List Worker). length ws) is in
    let back : take many (new ++ drop (length new) items) ≡ new = overwritten many items new (size ∙ wide) in (
      subst (All (IsWorker b s)) (sym back) (all_back b s n new (λ i d near. each i d (omega (arith, near, long)))).0,
      ap (λ (ws : List Worker). length ws) back ∙ size,
    )

pub gather-requires-clause-pool : goal.gather-requires-clause-pool
gather-requires-clause-pool g c κs within = let pool = c.in_ok-pool.pool in let was = c.in_ok-pool.ensures.ok in
    let written = all_written c.args.workload.now pool.scheduler.stile c.args.budget.firings pool.workers.len pool.workers.items
    c.as_mut_slice.result.now c.drive_all.new.workers c.as_mut_slice.ensures.value c.drive_all.auto.workers (omega arith)
    c.drive_all.ensures in record {
      fits = was.fits;
      belongs = was.belongs;
      none = was.none;
      made = was.made;
      unfired = was.unfired;
      permits = omega (arith, was.permits, written.1);
      are = written.0;
      some_workers = omega (arith, was.some_workers, written.1);
      empty = was.empty;
      room = was.room;
    }

pub returns-clause-ok_few : goal.returns-clause-ok_few
returns-clause-ok_few g c = let pool = c.in_ok-pool.pool in omega (
  arith,
  c.gather.ensures.fired,
  all_made c.args.workload.now pool.scheduler.stile c.args.budget.firings pool.workers.len c.args.budget.workers pool.workers.items
      c.as_mut_slice.result.now c.drive_all.new.workers c.as_mut_slice.ensures.value c.drive_all.auto.workers (omega arith)
      c.in_ok-pool.ensures.ok_workers.0 c.drive_all.ensures,
)
