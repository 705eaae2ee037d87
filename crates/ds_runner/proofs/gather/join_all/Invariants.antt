use Rattle.std.proofs.Common.{◌≡◌, ◌+◌, All, length, sum_by}
use Rattle.ds_runner.specs.TurnstileRule.{HasNone}
use Rattle.ds_runner.specs.Shown.{IsTurnOf}
use Rattle.ds_runner.specs.Work.{made_of}
use Rattle.ds_runner.specs.declared.worker.Worker.{Worker}
use Rattle.ds_runner.proofs.gather.join_all.Given as goal

abbrev pub invariant-joining : goal.invariant-joining
invariant-joining l = IsTurnOf l.stile l.turn × HasNone l.turn.view
    × All (λ (w : Worker). IsTurnOf l.stile w.turn × HasNone w.turn.view × (w.turn.view.permits ≡ 1)) l.workers.items
    × (l.turn.view.permits + length l.workers.items ≡ l.fn.turn.view.permits + length l.fn.workers.items)
    × (l.turn.view.made + sum_by made_of l.workers.items ≡ l.fn.turn.view.made + sum_by made_of l.fn.workers.items)

abbrev pub decreases-joining : goal.decreases-joining
decreases-joining l = length l.workers.items
