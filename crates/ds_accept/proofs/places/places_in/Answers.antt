use Rattle.std.proofs.Common.{◌≡◌, ◌∙◌, ap, arith, true, not, ◌+◌, ◌++◌, ◌∷◌, [], List, subst, sym, ℕ}
use Rattle.std.specs.Result.{is_ok}
use Rattle.ds_accept.specs.Codes.{Code, event_code, IsMissingCode, StandsAtCode}
use Rattle.ds_accept.proofs.EventPlaces.{no_place, one_more, ArePlacedTo}
use Rattle.ds_accept.proofs.places.places_in.Goals as goal

pub returns-in_default-place : goal.returns-in_default-place
returns-in_default-place c = no_place c.args.events.now c.args.others.now c.loop-k.k c.loop-k.places.items c.loop-k.invariant (omega arith)
    c.index-events-k.result c.index-events-k.is
    (subst (λ (codes : List Code). IsMissingCode codes (event_code c.index-events-k.result)) c.in-Ok.ensures c.in_default-place.ensures)

pub loop-k-preserved : goal.loop-k-preserved
loop-k-preserved c =
    let ok : is_ok c.push.result ≡ true = c.is_err.ensures.negation ∙ ap not c.if-is_err.false in
    let items : c.push.new.self.items ≡ c.loop-k.places.items ++ c.in-Some.place ∷ [] = c.push.ensures.items ∙ rw ok (ap (λ (n : ℕ). c.loop-k.places.items ++ n ∷ []) c.new.ensures) in
    subst (ArePlacedTo c.args.events.now c.args.others.now (c.loop-k.k + 1)) (sym items)
    (one_more c.args.events.now c.args.others.now c.loop-k.k c.loop-k.places.items c.loop-k.invariant (omega arith) c.index-events-k.result c.index-events-k.is c.in-Some.place
    (subst (λ (codes : List Code). StandsAtCode codes (event_code c.index-events-k.result) c.in-Some.place) c.in-Ok.ensures c.in-Some.ensures))
