use Rattle.std.proofs.Common.{◌≡◌, ◌∙◌, ◌++◌, ◌∷◌, [], ℕ, List, arith, ap, map, sym}
use Rattle.std.specs.List.{range_with_len}
use Rattle.std.proofs.lemmas.List.FromFn.{map-range_with_len_more}
use Rattle.ds_opening.proofs.reads.own_lists.Goals as goal

pub loop-own-preserved : goal.loop-own-preserved
loop-own-preserved c =
    let own : ℕ = c.loop-own.own in
    let list : c.in_ok-own_list.field-0 ≡ own ∷ [] = c.in_ok-own_list.ensures.ok in
    c.in_ok-push.ensures.items
    ∙ (ap (λ (xs : List (List ℕ)). xs ++ c.in_ok-own_list.field-0 ∷ []) c.loop-own.invariant
    ∙ (ap (λ (x : List ℕ). map (λ own. own ∷ []) (range_with_len 0 own) ++ x ∷ []) list
    ∙ sym (map-range_with_len_more (λ own. own ∷ []) 0 own own (omega arith))))
