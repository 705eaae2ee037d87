use Rattle.std.proofs.Common.{◌≡◌, ◌+◌, ◌/◌, ◌∙◌, ℕ, ap, arith, sym, subst}
use Rattle.std.proofs.Common.{refl, true, []}
use Rattle.std.proofs.lemmas.Bool.{false≢true}
use Rattle.ds_rule.specs.Run.{Run, next, opens, opened}
use Rattle.ds_rule.specs.Rows.{row}
use Rattle.ds_rule.specs.Rule.{seen}
use Rattle.ds_rule.specs.Words.{width}
use Rattle.ds_rule.specs.Plays.{Sat}
use Rattle.ds_fabric.specs.Base.{IsInFlight}
use Rattle.ds_fabric.proofs.Flights.{still_flies}
use Rattle.ds_rule.specs.declared.view.View.{View}
use Rattle.ds_rule.proofs.GetElemLemmas.{by_bool}
use Rattle.ds_rule.proofs.EventLaws.{even_opens, opened-low}
use Rattle.ds_fabric.specs.HistoryList.{new_row}
use Rattle.ds_fabric.proofs.PassMemory.{within}
use Rattle.ds_fabric.proofs.HistoryLayout.{new_row-opens, new_row-else}
use Rattle.ds_fabric.proofs.flight.prepare.Goals as goal

-- how often a latch has opened, where it opens next
turn : (run : Run) (l f t : ℕ) → t ≡ (f + 1) / 2 → opens run (next run l f) ≡ true
    → t + 1 ≡ opened run l f + 1
turn run l f t is h = omega (arith, opened-low run l f (even_opens run l f h).0)

pub open_row-requires-clause-flight : goal.open_row-requires-clause-flight
open_row-requires-clause-flight g c = let opens_is = c.requires.role.opens_is in let run : Run = c.args.context.now.run.now in
    let v : View = c.args.seat.now.me.0 in let l : ℕ = c.args.due.node in
    let q = c.requires.flight in
    let fired = q.count in let h = opens_is ∙ sym c.if-opens.ensures in (
      record {
        live = q.live;
        phase = q.phase;
        node_is = q.node_is;
        near = q.near;
        begins = ap (λ (x : ℕ). opens run (next run x (seen v x))) q.node_is
            ∙ (ap (λ (f : ℕ). opens run (next run l f)) (sym fired) ∙ h);
        number = turn run l c.args.due.fired c.turns.result c.turns.ensures h
            ∙ ap (λ (f : ℕ). opened run l f + 1) fired;
      },
      record {
        live = q.live;
        phase = q.phase;
        node_is = q.node_is;
        written = c.requires.unwritten;
        run_is = q.run_is;
      },
    )

pub open_row-requires-clause-within : goal.open_row-requires-clause-within
open_row-requires-clause-within g c = let opens_is = c.requires.role.opens_is in
    let w = within c.args.context.now.run.now c.args.seat.now.me.0 c.args.due.node c.args.due.fired
    c.requires.flight.count (opens_is ∙ sym c.if-opens.ensures) c.requires.flight.enabled in
    (w.0, omega (arith, c.turns.ensures, w.1))

pub open_row-requires-clause-room : goal.open_row-requires-clause-room
open_row-requires-clause-room g c = record {
  from = c.requires.room.from;
  told = omega (arith, c.clear.ensures.capacity, c.requires.room.told);
}

pub returns-then-opens-clause-told : goal.returns-then-opens-clause-told
returns-then-opens-clause-told g c = let opens_is = c.requires.role.opens_is in
    let run : Run = c.args.context.now.run.now in
    let l : ℕ = c.args.due.node in let f : ℕ = c.args.due.fired in let h = opens_is ∙ sym c.if-opens.ensures in
    c.open_row.ensures.told ∙ (ap (row run l) (turn run l f c.turns.result c.turns.ensures h)
    ∙ sym (new_row-opens run l f h))

pub returns-then-opens-clause-me : goal.returns-then-opens-clause-me
returns-then-opens-clause-me g c = (
  width c.args.context.now.run.now c.args.due.node,
  c.open_row.ensures.me,
)

pub returns-then-opens-clause-flight : goal.returns-then-opens-clause-flight
returns-then-opens-clause-flight g c = let run : Run = c.args.context.now.run.now in
    let l : ℕ = c.args.due.node in let f : ℕ = c.args.due.fired in
    subst (λ (x : Sat). IsInFlight run x.0 l f) (sym c.open_row.ensures.me)
    (still_flies run c.args.seat.now.me.0 l l f f (width run l) c.requires.flight refl refl)

pub returns-then-opens-clause-written : goal.returns-then-opens-clause-written
returns-then-opens-clause-written g c = λ _.
    omega (arith, ap (λ (x : Sat). x.0.written) c.open_row.ensures.me)

pub returns-else-opens-clause-me : goal.returns-else-opens-clause-me
returns-else-opens-clause-me g c = (
  0,
  ap (λ (w : ℕ). (
    record c.args.seat.now.me.0 { written = w },
    c.args.seat.now.me.1,
  )) c.requires.unwritten,
)

pub returns-else-opens-clause-written : goal.returns-else-opens-clause-written
returns-else-opens-clause-written g c = let opens_is = c.requires.role.opens_is in
    λ h. absurd (false≢true (c.if-opens.ensures ∙ (sym opens_is ∙ h)))

pub returns-else-opens-clause-told : goal.returns-else-opens-clause-told
returns-else-opens-clause-told g c = let opens_is = c.requires.role.opens_is in
    let run : Run = c.args.context.now.run.now in
    let l : ℕ = c.args.due.node in let f : ℕ = c.args.due.fired in
    c.clear.ensures.items ∙ by_bool ([] ≡ new_row run l f) (opens run (next run l f))
    (λ h. absurd (false≢true (c.if-opens.ensures ∙ (sym opens_is ∙ h)))) (λ h. sym (new_row-else run l f h))
