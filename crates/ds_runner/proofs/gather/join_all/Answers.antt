use Rattle.std.proofs.Common.{◌≡◌, ◌∙◌, ◌∷◌, [], ◌+◌, List, ap, arith, subst, length, length-append, All, sum_by}
use Rattle.std.proofs.lemmas.List.Sums.{sum_by-append}
use Rattle.ds_runner.specs.TurnstileRule.{HasNone}
use Rattle.ds_runner.specs.Shown.{IsTurnOf}
use Rattle.ds_runner.specs.declared.turn_view.TurnView.{TurnView}
use Rattle.ds_runner.specs.Work.{made_of}
use Rattle.ds_runner.specs.declared.worker.Worker.{Worker}
use Rattle.ds_runner.proofs.HiringLemmas.{all_split, joined_none}
use Rattle.ds_runner.proofs.gather.join_all.Goals as goal

pub joining-preserved : goal.joining-preserved
joining-preserved c =
    let ws : List Worker = c.pop.new.self.items in
    let i = c.joining.invariant in let e = c.join.ensures in
    let P : Worker → Type 0 = λ (w : Worker). IsTurnOf c.args.stile.now w.turn × HasNone w.turn.view × (w.turn.view.permits ≡ 1) in
    let all : All P ws × P c.in-Some.worker = all_split P ws c.in-Some.worker (subst (All P) c.in-Some.ensures.items i.2) in
    let size : length c.joining.workers.items ≡ length ws + 1 =
    ap (λ (xs : List Worker). length xs) c.in-Some.ensures.items ∙ length-append ws (c.in-Some.worker ∷ []) in
    let permits : c.join.new.turn.view.permits ≡ c.joining.turn.view.permits + c.in-Some.worker.turn.view.permits = ap (λ (v : TurnView). v.permits) e.view in
    let made : c.join.new.turn.view.made ≡ c.joining.turn.view.made + c.in-Some.worker.turn.view.made = ap (λ (v : TurnView). v.made) e.view in (
      e.fits,
      joined_none c.joining.turn.view c.in-Some.worker.turn.view c.join.new.turn.view e.view i.1,
      all.0,
      omega (arith, permits, all.1.2, size, i.3),
      omega (arith, made, i.4, ap (sum_by made_of) c.in-Some.ensures.items, sum_by-append made_of ws (c.in-Some.worker ∷ [])),
    )
