use Rattle.std.proofs.Common.{ℕ, List, [], ◌∷◌, ◌++◌, ◌≡◌, ◌∙◌, ◌+◌, ap, arith, refl, subst, sym}
use Rattle.ds_accept.specs.Codes.{Code}
use Rattle.ds_accept.specs.Steps.{AreEventsNumbered, IsNumberOf}
use Rattle.ds_accept.proofs.EventNumbering.{AreNumberedTo, all_numbered, in_room, none_numbered, one_more}
use Rattle.ds_accept.proofs.numbered.numbers_behind.Goals as goal

pub loop-event-init : goal.loop-event-init
loop-event-init c = none_numbered c.args.known.now c.args.graph.now c.args.events.now c.new-numbers.result.items c.requires.nodes c.new-numbers.ensures.items

pub loop-event-preserved : goal.loop-event-preserved
loop-event-preserved c =
    let items : c.push.new.self.items ≡ c.loop-event.numbers.items ++ c.in_ok-number.number ∷ [] =
    c.in_ok-push.ensures.items ∙ ap (λ (n : ℕ). c.loop-event.numbers.items ++ n ∷ []) c.new.ensures in
    subst (AreNumberedTo c.args.known.now c.args.graph.now c.number_of.new.events (c.loop-event.event-index + 1)) (sym items)
    (one_more c.args.known.now c.args.graph.now c.loop-event.event-index c.event-item.result c.loop-event-test.true c.event-item.is
    c.loop-event.events c.loop-event.numbers.items c.loop-event.invariant c.number_of.new.events c.in_ok-number.number
    (subst (λ (codes : List Code). IsNumberOf codes c.event-item.result c.loop-event.events c.number_of.new.events c.in_ok-number.number) c.in_ok-places.ensures c.in_ok-number.ensures))

pub returns : goal.returns
returns c =
    let all : AreEventsNumbered c.args.known.now c.args.graph.now (record { events = c.loop-event.events; numbers = c.loop-event.numbers }) =
    all_numbered c.args.known.now c.args.graph.now c.loop-event.events c.loop-event.event-index c.loop-event.numbers.items
    (omega (arith, c.loop-event-test.false, c.loop-event.auto.event-index-end)) c.loop-event.invariant _ refl refl in record {
      same = all.same;
      places = all.places;
    }

pub overflow_cast-number : goal.overflow_cast-number
overflow_cast-number c = omega (
  arith,
  in_room c.args.known.now c.args.graph.now c.loop-event.event-index c.event-item.result c.loop-event-test.true c.event-item.is
      c.loop-event.events c.loop-event.numbers.items c.loop-event.invariant c.requires.few c.number_of.new.events c.in_ok-number.number
      (subst (λ (codes : List Code). IsNumberOf codes c.event-item.result c.loop-event.events c.number_of.new.events c.in_ok-number.number) c.in_ok-places.ensures c.in_ok-number.ensures),
)
