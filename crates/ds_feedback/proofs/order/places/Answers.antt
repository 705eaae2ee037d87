use Rattle.std.proofs.Common.{◌∙◌, ◌++◌, ◌+◌, ◌∷◌, [], ℕ, List, arith, ap, sym}
use Rattle.std.specs.List.{range_with_len}
use Rattle.std.proofs.lemmas.List.{map-id}
use Rattle.std.proofs.lemmas.List.FromFn.{map-range_with_len_more}
use Rattle.ds_feedback.proofs.order.places.Goals as goal

pub loop-place-preserved : goal.loop-place-preserved
loop-place-preserved c =
    let place : ℕ = c.loop-place.place in
    c.in_ok-push.ensures.items
    ∙ (ap (λ (xs : List ℕ). xs ++ place ∷ []) (c.loop-place.invariant ∙ sym (map-id (range_with_len 0 place)))
    ∙ (sym (map-range_with_len_more (λ (k : ℕ). k) 0 place place (omega arith)) ∙ map-id (range_with_len 0 (place + 1))))
