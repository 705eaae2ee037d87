use Rattle.std.proofs.Common.{◌≡◌, ◌+◌, ◌<◌, ◌≤◌, ◌∙◌, ℕ, List, ap, refl, sym, arith, subst, true}
use mathlib.Core.Option.{some}
use lib.ListN.{get_elem?}
use Rattle.ds_rule.specs.Run.{Run, IsEnabledInRun}
use Rattle.ds_rule.specs.Rule.{holds, seen}
use Rattle.ds_rule.specs.Plays.{Sat}
use Rattle.ds_rule.specs.declared.view.View.{View}
use Rattle.ds_rule.proofs.EventLaws.{events-is}
use Rattle.ds_rule.proofs.GetElemLemmas.{at_below, at_get, same_at}
use Rattle.ds_fabric.specs.Noted.{IsArmed}
use Rattle.ds_fabric.specs.Indexed.{IsHistoryAt}
use Rattle.ds_fabric.specs.Looks.{LooksOn, IsSeenLacking}
use Rattle.ds_fabric.specs.Noted.{HasFired}
use Rattle.ds_fabric.specs.Stepped.{FiresNext, done}
use Rattle.ds_fabric.specs.declared.history.History.{History}
use Rattle.ds_fabric.proofs.Flights.{Coming, arms, coming, near_run}
use Rattle.ds_fabric.proofs.PassFirings.{looks_pass, fires_pass, fires_many}
use Rattle.ds_fabric.proofs.PassMemory.{fires}
use Rattle.ds_fabric.proofs.flight.fire_if_enabled.Given
use Rattle.ds_fabric.proofs.flight.fire_if_enabled.Goals as goal
use Rattle.ds_fabric.proofs.flight.fire_if_enabled.Goals.{After-index-history, After-turns-before}
use Rattle.ds_fabric.proofs.flight.fire_if_enabled.Goals.{In_default}

-- the history that is read stands there, and its node is held
record Read (v : View) (nodes : List History) (i : ℕ) (h : History) : Type 0 where
  at : get_elem? nodes i ≡ some h
  has : holds v h.node ≡ true
  only : (l : ℕ) → IsHistoryAt nodes i l → h.node ≡ l

read : (g : Given.Over) (c : After-index-history g)
    → Read c.args.seat.now.me.0 c.args.histories.now.nodes.items c.args.at c.index-history.result.now
read g c = let (room, p) = c.requires.pass in let (l, there) = c.requires.there in
    let i : History = c.index-history.result.now in
    let same : there.0 ≡ i = sym (at_get c.args.histories.now.nodes.items c.args.at there.0 i
    there.1) ∙ sym c.index-history.ensures in
    let at-i = subst (λ (x : History). get_elem? c.args.histories.now.nodes.items c.args.at
    ≡ some x) same there.1 in record {
      at = at-i;
      has = (p.keeps.listed c.args.at i at-i).has;
      only = λ l' f. ap (λ (x : History). x.node)
          (same_at c.args.histories.now.nodes.items c.args.at i f.0 at-i f.1) ∙ f.2;
    }

-- what is known of the event that comes
known : (g : Given.Over) (c : After-turns-before g)
    → Read c.args.seat.now.me.0 c.args.histories.now.nodes.items c.args.at c.index-history.result.now
    → Coming c.args.context.now.run.now c.args.seat.now.me.0 c.index-history.result.now.node
    c.next-event.result c.turns-before.result
known g c r = let (room, p) = c.requires.pass in
    coming c.args.context.now.run.now c.args.seat.now.me c.args.histories.now c.args.at
    c.index-history.result.now c.next-event.result c.turns-before.result
    c.requires.run c.args.context.now.built.over.sound p.keeps r.at c.next-event.ensures
    c.turns-before.ensures

-- what its flight asks is there
ready : (g : Given.Over) (c : In_default g)
    → Read c.args.seat.now.me.0 c.args.histories.now.nodes.items c.args.at c.index-history.result.now
    → IsArmed c.args.context.now.run.now c.survey.new.seat.me.0 c.args.histories.now c.args.at
    c.index-history.result.now
ready g c r = let (room, p) = c.requires.pass in let q = c.in_default.ensures in
    let h : History = c.index-history.result.now in
    arms c.args.context.now.run.now c.args.seat.now.me c.survey.new.seat.me c.args.histories.now
    c.args.at h c.next-event.result c.turns-before.result c.requires.run p.keeps
    (p.buffers c.args.at h r.at) r.at c.args.context.now.built.over.sound.among
    c.next-event.ensures c.turns-before.ensures
    (omega (arith, c.if-before-limit.false, c.limit.ensures)) q.looks q.table.1 q.none

pub index-history-requires : goal.index-history-requires
index-history-requires g c = let (l, there) = c.requires.there in
    omega (arith, at_below c.args.histories.now.nodes.items c.args.at there.0 there.1)

pub next-event-requires : goal.next-event-requires
next-event-requires g c = let sound = c.args.context.now.built.over.sound in
    let (room, p) = c.requires.pass in
    let r = read g (goal.at.next-event-requires g c).After-index-history in
    let near = near_run c.args.context.now.run.now c.args.seat.now.me c.args.histories.now
    c.index-history.result.now.node c.requires.run p.keeps r.has in
    (omega (arith, sound.among, sound.few), omega (arith, near, sound.few))

pub returns-then-before-limit-clause-step : goal.returns-then-before-limit-clause-step
returns-then-before-limit-clause-step g c l there =
    let a = goal.at.returns-then-before-limit-clause-step g c in
    let r = read g a.After-index-history in let n = known g a.After-turns-before r in (
      refl,
      omega (
        arith,
        c.if-before-limit.true,
        c.limit.ensures,
        n.before_is,
        ap (done c.args.context.now.run.now c.args.seat.now.me.0) (r.only l there),
      ),
    )

pub survey-requires-clause-idle : goal.survey-requires-clause-idle
survey-requires-clause-idle g c = let (room, p) = c.requires.pass in
    (p.keeps.live, p.keeps.idle, p.keeps.seen_long ∙ ap (λ (r : Run). r.nodes) c.requires.run)

pub survey-requires-clause-few : goal.survey-requires-clause-few
survey-requires-clause-few g c =
    let a = goal.at.survey-requires-clause-few g c in
    let n = known g a.After-turns-before (read g a.After-index-history) in (
      omega (
        arith,
        c.if-before-limit.false,
        c.limit.ensures,
        c.args.context.now.built.over.sound.short,
      ),
      n.below,
    )

pub overflow_cast-arc : goal.overflow_cast-arc
overflow_cast-arc g c = omega (
  arith,
  c.in-Some.ensures.some.inside,
  c.args.context.now.built.over.sound.few_arcs,
)

pub overflow_cast-event : goal.overflow_cast-event
overflow_cast-event g c = let sound = c.args.context.now.built.over.sound in
    let a = goal.at.overflow_cast-event g c in
    let n = known g a.After-turns-before (read g a.After-index-history) in
    omega (arith, n.below, events-is c.args.context.now.run.now, sound.among, sound.few)

pub returns-in-Some-clause-step : goal.returns-in-Some-clause-step
returns-in-Some-clause-step g c l there =
    let run : Run = c.args.context.now.run.now in let v : View = c.args.seat.now.me.0 in
    let a = goal.at.returns-in-Some-clause-step g c in
    let r = read g a.After-index-history in let n = known g a.After-turns-before r in
    let u : View = c.survey.new.seat.me.0 in let s = c.in-Some.ensures in
    let h : History = c.index-history.result.now in
    let P : ℕ → ℕ → ℕ → Type 0 = λ e t x. LooksOn v u
    × IsSeenLacking run v u e (t + 1) x c.in-Some.seen × (t < run.limit) in
    let below : c.turns-before.result < run.limit =
    omega (arith, c.if-before-limit.false, c.limit.ensures) in
    subst (λ (y : ℕ). P (Rattle.ds_rule.specs.Run.next run y (seen v y)) (done run v y)
    c.new-arc.result) (r.only l there)
    (subst (λ e. P e (done run v h.node) c.new-arc.result) n.event_is
    (subst (λ t. P c.next-event.result t c.new-arc.result) n.before_is
    (subst (P c.next-event.result c.turns-before.result) (sym c.new-arc.ensures)
    (s.looks, s.some, below))))

pub returns-in-Some-clause-pass : goal.returns-in-Some-clause-pass
returns-in-Some-clause-pass g c room p = let s = c.in-Some.ensures in
    looks_pass c.args.seat.now.me c.survey.new.seat.me room c.args.histories.now p s.looks s.table.1

pub returns-in-Some-clause-same : goal.returns-in-Some-clause-same
returns-in-Some-clause-same g c =
    (c.in-Some.ensures.looks.run, c.in-Some.ensures.looks.holds_same)

pub fire-ticket-requires-clause-armed : goal.fire-ticket-requires-clause-armed
fire-ticket-requires-clause-armed g c = (
  c.index-history.result.now,
  let a = goal.at.fire-ticket-requires-clause-armed g c in
      ready g a.In_default (read g a.After-index-history),
)

pub returns-clause-step : goal.returns-clause-step
returns-clause-step g c l there =
    let run : Run = c.args.context.now.run.now in let me : Sat = c.args.seat.now.me in
    let h : History = c.index-history.result.now in let (room, p) = c.requires.pass in
    let q = c.in_default.ensures in let e = c.fire-ticket.ensures in
    let a = goal.at.returns-clause-step g c in let r = read g a.After-index-history in
    let n = known g a.After-turns-before r in
    let w : View = c.fire-ticket.new.seat.me.0 in let t : ℕ = c.fire-ticket.result in
    let within : c.turns-before.result + 1 ≤ run.limit =
    omega (arith, c.if-before-limit.false, c.limit.ensures) in
    let P : ℕ → ℕ → Type 0 = λ y x. FiresNext run me.0 w y x (c.turns-before.result + 1) t in
    subst (λ (y : ℕ). P y c.new-event.result) (r.only l there)
    (subst (P h.node) (sym c.new-event.ensures)
    (fires run me c.survey.new.seat.me c.args.histories.now w h.node c.next-event.result
    (c.turns-before.result + 1) t c.requires.run p.keeps r.has q.looks q.table.1
    n.event_is (ap (λ (x : ℕ). x + 1) n.before_is) within
    (subst (IsEnabledInRun run (seen c.survey.new.seat.me.0)) (sym c.next-event.ensures)
    (ready g a.In_default r).ready) e.fresh
    (ap (λ (m : Sat). m.0) (e.me h r.at))))

pub returns-clause-pass : goal.returns-clause-pass
returns-clause-pass g c room p = let a = goal.at.returns-clause-pass g c in
    let r = read g a.After-index-history in let q = c.in_default.ensures in
    let h : History = c.index-history.result.now in let e = c.fire-ticket.ensures in
    let armed = ready g a.In_default r in
    fires_pass c.survey.new.seat.me c.fire-ticket.new.seat.me room c.args.histories.now
    c.fire-ticket.new.histories c.args.at c.fire-ticket.result h
    (looks_pass c.args.seat.now.me c.survey.new.seat.me room c.args.histories.now p q.looks
    q.table.1) r.at (e.me h r.at)
    (subst (λ (x : Run). HasFired x c.args.histories.now c.fire-ticket.new.histories c.args.at
    c.fire-ticket.result h) (sym armed.run_is) (e.noted h r.at))

pub returns-clause-many : goal.returns-clause-many
returns-clause-many g c =
    let r = read g (goal.at.returns-clause-many g c).After-index-history in
    fires_many c.args.context.now.run.now c.args.histories.now c.fire-ticket.new.histories
    c.args.at c.fire-ticket.result c.index-history.result.now
    (c.fire-ticket.ensures.noted c.index-history.result.now r.at)

pub returns-clause-same : goal.returns-clause-same
returns-clause-same g c = let r = read g (goal.at.returns-clause-same g c).After-index-history in
    let e = c.fire-ticket.ensures.me c.index-history.result.now r.at in
    let q = c.in_default.ensures.looks in (
      ap (λ (m : Sat). m.0.run) e ∙ q.run,
      ap (λ (m : Sat). m.0.holds) e ∙ q.holds_same,
    )
