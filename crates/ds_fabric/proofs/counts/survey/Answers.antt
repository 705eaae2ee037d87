use Rattle.std.proofs.Common.{◌<◌, ◌≤◌, ◌+◌, ◌∙◌, ℕ, List, ap, refl, sym, arith, subst}
use Rattle.std.proofs.Common.{get_or, length}
use Rattle.std.proofs.lemmas.Bool.{false≢true}
use Rattle.ds_rule.specs.Run.{Run}
use Rattle.ds_rule.specs.Plays.{Sat}
use Rattle.ds_rule.proofs.EventLaws.{events-is}
use Rattle.ds_rule.specs.declared.view.View.{View}
use Rattle.ds_fabric.specs.Chained.{arc_numbered}
use Rattle.ds_fabric.specs.Looks.{LooksOn, IsSeenLacking}
use Rattle.ds_rule.specs.Event.{fired_of}
use Rattle.ds_fabric.specs.Into.{IsInto}
use Rattle.ds_fabric.specs.declared.arc_in.ArcIn.{ArcIn}
use Rattle.ds_rule.specs.declared.event_role.EventRole.TheVariants.{Opening}
use Rattle.ds_fabric.proofs.ArcChains.{read-off}
use Rattle.ds_fabric.proofs.IncomingArcs.{ends_read, entry_into, look_near, none_before}
use Rattle.ds_fabric.proofs.IncomingArcs.{enough_all, goes_on, stops}
use Rattle.ds_fabric.proofs.LoadedViews.{looks_none}
use Rattle.ds_fabric.proofs.counts.survey.Given
use Rattle.ds_fabric.proofs.counts.survey.Goals as goal
use Rattle.ds_fabric.proofs.counts.survey.Goals.{After-look-fired}

not-less : (a b : ℕ) → (a < b → ⊥) → b ≤ a
not-less a b h = omega arith

pub index-i-requires : goal.index-i-requires
index-i-requires g c = let (_, near) = c.requires.few in omega (arith, c.requires.incoming.starts_long, near)

pub overflow_add-event : goal.overflow_add-event
overflow_add-event g c = let (_, near) = c.requires.few in
    omega (arith, near, events-is c.args.context.now.run.now, c.args.context.now.built.over.sound.few)

pub index-i-end-requires : goal.index-i-end-requires
index-i-end-requires g c = let (_, near) = c.requires.few in omega (arith, c.requires.incoming.starts_long, near)

pub loop-i-init : goal.loop-i-init
loop-i-init g c = let (_, near) = c.requires.few in
    let numbers : List ℕ = c.args.context.now.incoming.now.numbers.items in
    let e = ends_read c.args.context.now.run.now c.args.event c.index-i.result.now
    c.index-i-end.result.now c.args.context.now.incoming.now.starts.items numbers
    c.args.context.now.incoming.now.arcs.items near c.requires.incoming
    c.index-i.ensures c.index-i-end.ensures in record {
      table = refl;
      slots = refl;
      looks = looks_none c.args.seat.now.me.0;
      enough = none_before c.args.context.now.run.now c.args.seat.now.me.0 c.args.turn numbers _ _ e.0;
      from = omega (arith, e.0);
      end = sym e.1;
    }

pub bounds-arcs-i : goal.bounds-arcs-i
bounds-arcs-i g c = let (_, near) = c.requires.few in
    omega (
      arith,
      c.loop-i-test.true,
      c.loop-i.invariant.end,
      (c.requires.incoming.parts c.args.event near).inside,
      ap (λ (xs : List ArcIn). length xs) c.as_slice-arcs.ensures.value,
    )

pub look-fired-requires-clause-table : goal.look-fired-requires-clause-table
look-fired-requires-clause-table g c = c.loop-i.invariant.table ∙ c.requires.table

pub look-fired-requires-clause-idle : goal.look-fired-requires-clause-idle
look-fired-requires-clause-idle g c = let q = c.loop-i.invariant.looks in
    let (live, at_rest, _) = c.requires.idle in (q.live ∙ live, q.phase ∙ at_rest)

-- the place of the arc that is looked at is one of the event's
place : (g : Given.Over) (c : After-look-fired g)
    → (c.loop-i.i < get_or c.args.context.now.incoming.now.starts.items (c.args.event + 1) 0)
    × (c.loop-i.i < length c.args.context.now.incoming.now.numbers.items)
place g c = let all = c.requires.incoming in let (_, near) = c.requires.few in
    let below : c.loop-i.i < get_or c.args.context.now.incoming.now.starts.items (c.args.event + 1) 0 =
    omega (arith, c.loop-i-test.true, c.loop-i.invariant.end) in
    (below, omega (arith, below, (all.parts c.args.event near).inside, all.numbers_long))

pub index-requires : goal.index-requires
index-requires g c = omega (arith, (place g (goal.at.index-requires g c).After-look-fired).1)

pub look-fired-requires-clause-near : goal.look-fired-requires-clause-near
look-fired-requires-clause-near g c = let (_, near) = c.requires.few in
    look_near c.args.context.now.run.now c.args.event c.loop-i.i c.args.context.now.incoming.now.starts.items
    c.args.context.now.incoming.now.numbers.items c.args.context.now.incoming.now.arcs.items c.as_slice-arcs.result.now _
    c.args.context.now.built.over.sound near c.requires.incoming c.as_slice-arcs.ensures.value
    c.loop-i.invariant.from (omega (arith, c.loop-i-test.true, c.loop-i.invariant.end))

-- the arc that is looked at
looked_at : (g : Given.Over) (c : After-look-fired g)
    → IsInto c.args.context.now.run.now c.args.event
    (get_or c.args.context.now.incoming.now.numbers.items c.loop-i.i 0)
    (get_or c.as_slice-arcs.result.now c.loop-i.i
    (record { node = 0; ahead = 0; source = Opening }))
looked_at g c = let (_, near) = c.requires.few in
    entry_into c.args.context.now.run.now c.args.event c.loop-i.i
    c.args.context.now.incoming.now.starts.items c.args.context.now.incoming.now.numbers.items
    c.args.context.now.incoming.now.arcs.items c.as_slice-arcs.result.now _ near
    c.requires.incoming c.as_slice-arcs.ensures.value c.loop-i.invariant.from (place g c).0

-- what the look tells where it shows too few tokens
halted : (g : Given.Over) (c : After-look-fired g)
    → fired_of (get_or c.as_slice-arcs.result.now c.loop-i.i
    (record { node = 0; ahead = 0; source = Opening })).source c.look-fired.result
    + (arc_numbered c.args.context.now.run.now
    (get_or c.args.context.now.incoming.now.numbers.items c.loop-i.i 0)).tokens < c.args.turn
    → LooksOn c.args.seat.now.me.0 c.look-fired.new.seat.me.0
    × IsSeenLacking c.args.context.now.run.now c.args.seat.now.me.0 c.look-fired.new.seat.me.0
    c.args.event c.args.turn (get_or c.args.context.now.incoming.now.numbers.items c.loop-i.i 0)
    (fired_of (get_or c.as_slice-arcs.result.now c.loop-i.i
    (record { node = 0; ahead = 0; source = Opening })).source c.look-fired.result)
halted g c short = let e = c.look-fired.ensures in let (_, _, seen_long) = c.requires.idle in
    stops c.args.context.now.run.now c.args.event c.args.turn
    (get_or c.args.context.now.incoming.now.numbers.items c.loop-i.i 0) c.args.seat.now.me.0
    c.loop-i.seat.me c.look-fired.new.seat.me
    (get_or c.as_slice-arcs.result.now c.loop-i.i
    (record { node = 0; ahead = 0; source = Opening })) c.look-fired.result
    c.args.context.now.built.over.sound (looked_at g c) e.me c.loop-i.invariant.looks seen_long e.up e.own
    short

pub returns-then-lacks-clause-table : goal.returns-then-lacks-clause-table
returns-then-lacks-clause-table g c = (
  c.look-fired.ensures.table ∙ c.loop-i.invariant.table,
  ap (λ (y : Sat). y.1) c.look-fired.ensures.me ∙ c.loop-i.invariant.slots,
)

pub returns-then-lacks-clause-looks : goal.returns-then-lacks-clause-looks
returns-then-lacks-clause-looks g c =
    let a = (goal.at.returns-then-lacks-clause-looks g c).After-look-fired in
    let into = looked_at g a in (halted g a ((c.if-lacks.ensures _ into.says.ahead_is).0 refl)).0

pub returns-then-lacks-clause-some : goal.returns-then-lacks-clause-some
returns-then-lacks-clause-some g c =
    let run : Run = c.args.context.now.run.now in let i : ℕ = c.loop-i.i in
    let numbers : List ℕ = c.args.context.now.incoming.now.numbers.items in
    let x : ArcIn = get_or c.as_slice-arcs.result.now i
    (record { node = 0; ahead = 0; source = Opening }) in
    let v : View = c.args.seat.now.me.0 in let w : View = c.look-fired.new.seat.me.0 in
    let a = (goal.at.returns-then-lacks-clause-some g c).After-look-fired in
    let into = looked_at g a in
    subst (λ (n : ℕ). IsSeenLacking run v w c.args.event c.args.turn c.index.result.now n)
    (sym c.turns.ensures)
    (subst (λ (n : ℕ). IsSeenLacking run v w c.args.event c.args.turn n
    (fired_of x.source c.look-fired.result))
    (read-off numbers i c.index.result.now (place g a).1 c.index.ensures)
    (halted g a ((c.if-lacks.ensures _ into.says.ahead_is).0 refl)).1)

pub loop-i-preserved : goal.loop-i-preserved
loop-i-preserved g c = let (_, _, seen_long) = c.requires.idle in
    let run : Run = c.args.context.now.run.now in let i : ℕ = c.loop-i.i in let inv = c.loop-i.invariant in
    let numbers : List ℕ = c.args.context.now.incoming.now.numbers.items in
    let x : ArcIn = get_or c.as_slice-arcs.result.now i
    (record { node = 0; ahead = 0; source = Opening }) in
    let r : ℕ = c.look-fired.result in let e = c.look-fired.ensures in
    let into : IsInto run c.args.event (get_or numbers i 0) x =
    looked_at g (goal.at.loop-i-preserved g c).After-look-fired in
    let tokens : ℕ = (arc_numbered run (get_or numbers i 0)).tokens in
    let here : c.args.turn ≤ fired_of x.source r + tokens =
    not-less (fired_of x.source r + tokens) c.args.turn
    (λ t. false≢true ((c.if-lacks.ensures tokens into.says.ahead_is).1 t)) in
    let both = goes_on run c.args.event c.args.turn
    (get_or c.args.context.now.incoming.now.starts.items c.args.event 0) i numbers c.args.seat.now.me.0
    c.loop-i.seat.me c.look-fired.new.seat.me x r c.args.context.now.built.over.sound into e.me inv.looks inv.enough
    seen_long e.up e.own here in record {
      table = e.table ∙ inv.table;
      slots = ap (λ (y : Sat). y.1) e.me ∙ inv.slots;
      looks = both.0;
      enough = both.1;
      from = omega (arith, inv.from);
      end = inv.end;
    }

pub returns-clause-table : goal.returns-clause-table
returns-clause-table g c = (c.loop-i.invariant.table, c.loop-i.invariant.slots)

pub returns-clause-looks : goal.returns-clause-looks
returns-clause-looks g c = c.loop-i.invariant.looks

pub returns-clause-none : goal.returns-clause-none
returns-clause-none g c = let (_, near) = c.requires.few in
    let inv = c.loop-i.invariant in let starts : List ℕ = c.args.context.now.incoming.now.starts.items in
    enough_all c.args.context.now.run.now c.loop-i.seat.me.0 c.args.event c.args.turn
    (get_or starts c.args.event 0) (get_or starts (c.args.event + 1) 0)
    c.args.context.now.incoming.now.arcs.items c.args.context.now.incoming.now.numbers.items
    (c.requires.incoming.parts c.args.event near)
    (λ j a b. inv.enough j a (omega (arith, b, c.loop-i-test.false, inv.end)))
