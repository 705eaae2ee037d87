-- The chains of edges grow by one edge.
use Rattle.std.proofs.Common.{◌≡◌, ◌≢◌, ◌<◌, ◌≤◌, ◌+◌, ◌-◌, ℕ, List, [], ◌∷◌, ◌++◌, length, get_or, inl, inr, arith, sym, length-append, refl}
use Rattle.std.proofs.Math.ListN.{set}
use Rattle.std.proofs.lemmas.Bool.{cases_eq}
use Rattle.ds_rank.specs.declared.edge.Edge.{Edge}
use Rattle.ds_rank.specs.Order.{target_at}
use Rattle.ds_rank.specs.Search.{IsLinkedTo}
use Rattle.ds_rank.proofs.SliceUpdates.{at_set, at_push}

module _ (count : ℕ) (edges : List Edge) (k : ℕ) (heads link : List ℕ) (h : IsLinkedTo count edges k heads link)
    (own : target_at edges k < count) (heads_size : length heads ≡ count) where
  t : ℕ
  t = target_at edges k

  grown : List ℕ
  grown = link ++ get_or heads (target_at edges k) 0 ∷ []

  back : (p : ℕ) → p < k + 1 → get_or (link ++ get_or heads (target_at edges k) 0 ∷ []) p 0 ≤ p
  back p lt = elim (at_push link (get_or heads (target_at edges k) 0) p (omega (arith, h.size))) [
    | inl (e, s) ↦ rw s (omega (arith, h.head_inside (target_at edges k) own, h.size))
    | inr (lt2, s) ↦ rw s (h.back p (omega (arith, h.size)))
  ]

  same : (p : ℕ) → p < k + 1 → 0 < get_or (link ++ get_or heads (target_at edges k) 0 ∷ []) p 0
      → target_at edges (get_or (link ++ get_or heads (target_at edges k) 0 ∷ []) p 0 - 1) ≡ target_at edges p
  same p lt = elim (at_push link (get_or heads (target_at edges k) 0) p (omega (arith, h.size))) [
    | inl (e, s) ↦ let pk : p ≡ k = omega (arith, h.size) in rw (s, pk) (h.head_own (target_at edges k) own)
    | inr (lt2, s) ↦ rw s (h.same p (omega (arith, h.size)))
  ]

  none : (p j : ℕ) → p < k + 1 → get_or (link ++ get_or heads (target_at edges k) 0 ∷ []) p 0 ≤ j → j < p
      → target_at edges j ≢ target_at edges p
  none p j lt = elim (at_push link (get_or heads (target_at edges k) 0) p (omega (arith, h.size))) [
    | inl (e, s) ↦ let pk : p ≡ k = omega (arith, h.size) in rw (s, pk) (h.head_none (target_at edges k) j own)
    | inr (lt2, s) ↦ rw s (h.none p j (omega (arith, h.size)))
  ]

  head_inside : (v : ℕ) → v < count → get_or (set heads (target_at edges k) (k + 1)) v 0 ≤ k + 1
  head_inside v lt = elim (at_set heads (target_at edges k) (k + 1) v (omega arith)) [
    | inl (e, s) ↦ rw s (omega arith)
    | inr (ne, s) ↦ rw s (omega (arith, h.head_inside v lt))
  ]

  head_own : (v : ℕ) → v < count → 0 < get_or (set heads (target_at edges k) (k + 1)) v 0
      → target_at edges (get_or (set heads (target_at edges k) (k + 1)) v 0 - 1) ≡ v
  head_own v lt = elim (at_set heads (target_at edges k) (k + 1) v (omega arith)) [
    | inl (e, s) ↦ let back : k + 1 - 1 ≡ k = omega arith in rw (s, back, e) (λ _. refl)
    | inr (ne, s) ↦ rw s (h.head_own v lt)
  ]

  head_none : (v j : ℕ) → v < count → get_or (set heads (target_at edges k) (k + 1)) v 0 ≤ j → j < k + 1
      → target_at edges j ≢ v
  head_none v j lt = elim (at_set heads (target_at edges k) (k + 1) v (omega arith)) [
    | inl (e, s) ↦ rw s (λ low high. absurd (omega arith))
    | inr (ne, s) ↦ rw s (λ low high is. elim (cases_eq j k) [
      | inl e ↦ ne (let at_k : target_at edges k ≡ v = rw (← e) is in sym at_k)
      | inr other ↦ h.head_none v j lt low (omega arith) is
    ])
  ]

  pub links_more : IsLinkedTo count edges (k + 1) (set heads (target_at edges k) (k + 1)) (link ++ get_or heads (target_at edges k) 0 ∷ [])
  links_more = record {
    size = omega (arith, h.size, length-append link (get_or heads (target_at edges k) 0 ∷ []));
    back = back;
    same = same;
    none = none;
    head_inside = head_inside;
    head_own = head_own;
    head_none = head_none;
  }
