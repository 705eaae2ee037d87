use Rattle.std.proofs.Common.{◌≡◌, ◌+◌, ◌∙◌, ℕ, ap, arith, refl, subst, sym, true}
use Rattle.ds_rule.specs.Run.{Run, next, turns, IsEnabledInRun}
use Rattle.ds_rule.specs.Rule.{holds, seen}
use Rattle.ds_rule.specs.Plays.{Sat}
use Rattle.ds_rule.specs.declared.view.View.{View}
use Rattle.ds_rule.proofs.EventLaws.{node-next}
use Rattle.ds_rule.proofs.GetElemLemmas.{same_at}
use Rattle.ds_fabric.specs.Noted.{HasFired}
use Rattle.ds_fabric.specs.Stepped.{done}
use Rattle.ds_fabric.specs.declared.history.History.{History}
use Rattle.ds_fabric.proofs.PassFirings.{pass_arms, fires_pass, fires_many}
use Rattle.ds_fabric.proofs.PassMemory.{fires, landed}
use Rattle.ds_fabric.proofs.LoadedViews.{looks_none}
use Rattle.ds_fabric.proofs.flight.fire_enabled.Goals as goal

pub fire-requires-clause-armed : goal.fire-requires-clause-armed
fire-requires-clause-armed g c = let (room, p) = c.requires.pass in
    let (l, there, on) = c.requires.enabled in (
      there.0,
      pass_arms c.args.context.now.run.now c.args.seat.now.me room c.args.histories.now c.args.at l
          c.requires.run p there on,
    )

pub returns-clause-fires : goal.returns-clause-fires
returns-clause-fires g c l there =
    let run : Run = c.args.context.now.run.now in let me : Sat = c.args.seat.now.me in
    let v : View = me.0 in let (room, p) = c.requires.pass in
    let (l', there', on') = c.requires.enabled in
    let same : l' ≡ l = sym there'.2 ∙ (ap (λ (x : History). x.node)
    (same_at c.args.histories.now.nodes.items c.args.at there'.0 there.0 there'.1 there.1)
    ∙ there.2) in
    let on = subst (λ (x : ℕ). IsEnabledInRun run (seen v) (next run x (seen v x))) same on' in
    let has = subst (λ (x : ℕ). holds v x ≡ true)
    there.2 (p.keeps.listed c.args.at there.0 there.1).has in
    let E : ℕ = next run l (seen v l) in let e = c.fire.ensures in
    fires run me me c.args.histories.now c.fire.new.seat.me.0 l E (done run v l + 1) c.fire.result
    c.requires.run p.keeps has (looks_none v) refl refl refl
    (omega (arith, on.below, ap (λ (x : ℕ). turns run E (seen v x)) (node-next run l (seen v l))))
    on e.fresh (ap (λ (m : Sat). m.0) (subst (λ (x : ℕ). c.fire.new.seat.me
    ≡ (landed v x c.fire.result, me.1)) there.2
    (e.me there.0 there.1)))

-- the history that is lent has fired
fired : (run at : Run) → at ≡ run → (P : Run → Type 0) → P run → P at
fired run at is P p = subst P (sym is) p

pub returns-clause-pass : goal.returns-clause-pass
returns-clause-pass g c room p = let (l, there, on) = c.requires.enabled in
    let h : History = there.0 in let e = c.fire.ensures in
    fires_pass c.args.seat.now.me c.fire.new.seat.me room c.args.histories.now
    c.fire.new.histories c.args.at c.fire.result h p there.1 (e.me h there.1)
    (fired c.args.context.now.run.now c.args.seat.now.me.0.run c.requires.run
    (λ (r : Run). HasFired r c.args.histories.now c.fire.new.histories c.args.at c.fire.result h)
    (e.noted h there.1))

pub returns-clause-many : goal.returns-clause-many
returns-clause-many g c = let (l, there, on) = c.requires.enabled in
    fires_many c.args.context.now.run.now c.args.histories.now c.fire.new.histories c.args.at
    c.fire.result there.0 (c.fire.ensures.noted there.0 there.1)

pub returns-clause-same : goal.returns-clause-same
returns-clause-same g c = let (l, there, on) = c.requires.enabled in
    let e = c.fire.ensures.me there.0 there.1 in
    (ap (λ (m : Sat). m.0.run) e, ap (λ (m : Sat). m.0.holds) e)
