use Rattle.std.proofs.Common.{◌≡◌, ◌∙◌, ◌++◌, ◌∷◌, [], ℕ, List, ap, arith, subst, sym}
use Rattle.ds_rule.specs.Run.{Run}
use Rattle.ds_rule.specs.Plays.{Sat, after_depart, after_draw, after_publish}
use Rattle.ds_rule.proofs.GetElemLemmas.{at_below, at_get, same_at}
use Rattle.ds_fabric.specs.Noted.{IsArmed}
use Rattle.ds_fabric.specs.HistoryList.{new_row}
use Rattle.ds_fabric.specs.Noted.{HasTold}
use Rattle.ds_fabric.specs.declared.history.History.{History}
use Rattle.ds_fabric.proofs.Flights.{can_note}
use Rattle.ds_fabric.proofs.flight.fire.Given
use Rattle.ds_fabric.proofs.flight.fire.Goals as goal
use Rattle.ds_fabric.proofs.flight.fire.Goals.{After-index-history}

-- the history that is read is the armed one
read : (g : Given.Over) (c : After-index-history g) → c.requires.armed.0 ≡ c.index-history.result.now
read g c = let (h, armed) = c.requires.armed in
    sym (at_get c.args.histories.now.nodes.items c.args.at h c.index-history.result.now armed.there)
    ∙ sym c.index-history.ensures

ready : (g : Given.Over) (c : After-index-history g) → IsArmed c.args.context.now.run.now
    c.args.seat.now.me.0 c.args.histories.now c.args.at c.index-history.result.now
ready g c = let (_, armed) = c.requires.armed in
    subst (λ (x : History). IsArmed c.args.context.now.run.now c.args.seat.now.me.0
    c.args.histories.now c.args.at x) (read g c) armed

pub index-history-requires : goal.index-history-requires
index-history-requires g c = let (h, armed) = c.requires.armed in
    omega (arith, at_below c.args.histories.now.nodes.items c.args.at h armed.there)

pub depart-requires-clause-held : goal.depart-requires-clause-held
depart-requires-clause-held g c =
    let a = ready g (goal.at.depart-requires-clause-held g c).After-index-history in
    (a.held, a.near, a.fired)

pub depart-requires-clause-idle : goal.depart-requires-clause-idle
depart-requires-clause-idle g c =
    let a = ready g (goal.at.depart-requires-clause-idle g c).After-index-history in
    (a.live, a.idle, a.run_is)

pub depart-requires-clause-ready : goal.depart-requires-clause-ready
depart-requires-clause-ready g c =
    (ready g (goal.at.depart-requires-clause-ready g c).After-index-history).ready

pub prepare-requires-clause-room : goal.prepare-requires-clause-room
prepare-requires-clause-room g c =
    (ready g (goal.at.prepare-requires-clause-room g c).After-index-history).room.buffers

pub note-requires-clause-near : goal.note-requires-clause-near
note-requires-clause-near g c = let (h, armed) = c.requires.armed in
    omega (arith, at_below c.args.histories.now.nodes.items c.args.at h armed.there)

pub note-requires-clause-room : goal.note-requires-clause-room
note-requires-clause-room g c = let run : Run = c.args.context.now.run.now in
    let h : History = c.index-history.result.now in
    let a = ready g (goal.at.note-requires-clause-room g c).After-index-history in
    let e = c.next-event.ensures run c.design_nodes.ensures in (
      run,
      can_note run c.args.seat.now.me.0 c.args.histories.now c.prepare.new.buffers c.args.at h
          c.next-event.result.role c.args.context.now.built.over.sound a c.prepare.ensures.told
          c.prepare.ensures.room (record { turns_is = e.turns_is h.fired; opens_is = e.opens_is }),
    )

-- the view after the flight
landed_is : (m d p q : Sat) (l t n : ℕ) → d ≡ (after_depart m.0 l, m.1)
    → p ≡ (record d.0 { written = n }, d.1) → q ≡ (after_publish (after_draw p.0 t), p.1)
    → q ≡ (after_publish (after_draw (after_depart m.0 l) t), m.1)
landed_is m d p q l t n d-is p-is q-is = q-is
    ∙ (ap (λ (x : Sat). (after_publish (after_draw x.0 t), x.1)) p-is
    ∙ ap (λ (x : Sat). (after_publish (after_draw (record x.0 { written = n }) t), x.1)) d-is)

pub returns-clause-me : goal.returns-clause-me
returns-clause-me g c h at = let a = (goal.at.returns-clause-me g c).After-index-history in
    let same : c.index-history.result.now ≡ h = same_at c.args.histories.now.nodes.items c.args.at
    c.index-history.result.now h (ready g a).there at in
    let n = c.prepare.ensures.me in
    landed_is c.args.seat.now.me c.depart.new.seat.me c.prepare.new.seat.me
    c.publish-ticket.new.seat.me h.node c.publish-ticket.result n.0
    (c.depart.ensures.me ∙ ap (λ (x : History). (
      after_depart c.args.seat.now.me.0 x.node,
      c.args.seat.now.me.1,
    )) same) n.1 c.publish-ticket.ensures.me

pub returns-clause-noted : goal.returns-clause-noted
returns-clause-noted g c h at = let a = (goal.at.returns-clause-noted g c).After-index-history in
    let run : Run = c.args.context.now.run.now in let i : History = c.index-history.result.now in
    let same : i ≡ h = same_at c.args.histories.now.nodes.items c.args.at i h (ready g a).there at in
    let e = c.next-event.ensures run c.design_nodes.ensures in
    let t : HasTold run (record c.args.histories.now { buffers = c.prepare.new.buffers })
    c.note.new.self c.args.at (c.prepare.new.buffers.told.items ++ c.publish-ticket.result ∷ []) =
    c.note.ensures run (can_note run c.args.seat.now.me.0 c.args.histories.now
    c.prepare.new.buffers c.args.at i c.next-event.result.role
    c.args.context.now.built.over.sound (ready g a) c.prepare.ensures.told c.prepare.ensures.room
    (record { turns_is = e.turns_is i.fired; opens_is = e.opens_is })) in
    let told : c.prepare.new.buffers.told.items ++ c.publish-ticket.result ∷ []
    ≡ new_row run h.node h.fired ++ c.publish-ticket.result ∷ [] =
    ap (λ (xs : List ℕ). xs ++ c.publish-ticket.result ∷ []) (c.prepare.ensures.told
    ∙ ap (λ (x : History). new_row run x.node x.fired) same) in
    let u : HasTold run c.args.histories.now c.note.new.self c.args.at
    (new_row run h.node h.fired ++ c.publish-ticket.result ∷ []) =
    subst (HasTold run c.args.histories.now c.note.new.self c.args.at) told (record {
      old = t.old;
      new = t.new;
      there = t.there;
      nodes = t.nodes;
      nodes_room = t.nodes_room;
      places = t.places;
      apart = t.apart;
      from_room = t.from_room ∙ c.prepare.ensures.room.from;
      told_room = t.told_room ∙ c.prepare.ensures.room.told;
      noted = record {
        node = t.noted.node;
        fired = t.noted.fired;
        stride = t.noted.stride;
        first = t.noted.first;
        step = t.noted.step;
        room = t.noted.room;
        written = t.noted.written;
      };
    }) in
    record {
      told = u;
      old_is = same_at c.args.histories.now.nodes.items c.args.at u.old h u.there at;
    }
