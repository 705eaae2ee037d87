use Rattle.std.proofs.Common.{◌≡◌, ◌∙◌, ◌+◌, ◌<◌, ◌≤◌, ℕ, List, length, arith, ap, refl, sym, subst}
use Rattle.ds_outside.proofs.Pens.{puts_nothing, puts_on, with_put}
use Rattle.ds_period.specs.declared.timed.Timed.{Timed}
use Rattle.ds_times.specs.Course.{Course}
use Rattle.ds_times.specs.Schedule.{IsSchedule}
use Rattle.ds_stage.specs.TimesStage.{time_lines}
use Rattle.ds_app.proofs.TimesTexts.{turn_more}
use Rattle.ds_app.proofs.times_text.put_turns.Goals as goal

pub next-requires : goal.next-requires
next-requires g c = let at = c.loop-k.invariant.turn in let few = c.requires.few in omega arith

pub put_turn-requires-clause-events : goal.put_turn-requires-clause-events
put_turn-requires-clause-events g c =
    ap (λ (s : Course). s.events) c.next.ensures ∙ (c.loop-k.invariant.events ∙ c.requires.events)

pub put_turn-requires-clause-begun : goal.put_turn-requires-clause-begun
put_turn-requires-clause-begun g c =
    (omega arith, ap (λ (s : Course). s.turn) c.next.ensures ∙ ap (λ (n : ℕ). n + 1) c.loop-k.invariant.turn)

pub loop-k-init : goal.loop-k-init
loop-k-init g c = record {
  same = refl;
  arcs = refl;
  events = refl;
  turn = c.requires.begun;
  written = λ time schedule. puts_nothing (g.P.Pen.writing c.args.pen.now);
}

pub loop-k-preserved : goal.loop-k-preserved
loop-k-preserved g c =
    let k : ℕ = c.loop-k.k in
    let below : c.loop-k.k < c.args.turns = omega arith in
    let arcs = ap (λ (s : Course). s.arcs) c.next.ensures ∙ c.loop-k.invariant.arcs in
    record {
      same = c.put_turn.ensures.same ∙ c.loop-k.invariant.same;
      arcs = arcs;
      events = ap (λ (s : Course). s.events) c.next.ensures ∙ c.loop-k.invariant.events;
      turn = ap (λ (s : Course). s.turn) c.next.ensures ∙ ap (λ (n : ℕ). n + 1) c.loop-k.invariant.turn;
      written = λ time schedule.
          with_put (sym (turn_more c.args.plan.now.graph time c.args.order.now k))
          (puts_on (c.loop-k.invariant.written time schedule)
          (c.put_turn.ensures.lines c.args.turns time (omega (arith, below))
          (subst (λ (xs : List Timed). IsSchedule xs c.args.turns time) (sym arcs) schedule)));
    }

pub returns-clause-same : goal.returns-clause-same
returns-clause-same g c = c.loop-k.invariant.same

pub returns-clause-lines : goal.returns-clause-lines
returns-clause-lines g c time schedule =
    let all : c.loop-k.k ≡ c.args.turns = omega arith in
    with_put (ap (time_lines c.args.plan.now.graph time c.args.order.now) all) (c.loop-k.invariant.written time schedule)
