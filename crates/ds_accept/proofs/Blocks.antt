-- A block of orders as it grows.
use Rattle.std.proofs.Common.{◌≡◌, ◌∙◌, ◌<◌, ◌≤◌, ◌+◌, ℕ, List, [], ◌∷◌, ◌++◌, length, get_or, inl, inr, arith, ap, sym, subst, length-append}
use Rattle.std.specs.Prelude.{All}
use Rattle.std.specs.List.{HoldsAt}
use Rattle.std.proofs.Math.Seq.{get_or-append_seam}
use Rattle.std.proofs.lemmas.List.Elements.{All-push}
use Rattle.ds_marked.specs.declared.marked.Arc.{Arc}
use Rattle.ds_rank.proofs.SliceUpdates.{at_push}
use Rattle.ds_accept.specs.Masks.{IsBlock}

-- orders up to a place: a bit for each, and a source for each bit
pub record IsGrowing (asked : List Arc) (from place : ℕ) (sources bits : List ℕ) : Type 0 where
  pub few : length sources ≤ 64
  pub short : length sources ≤ length bits
  pub size : from + length bits ≡ place
  pub inside : All (λ v. (k : ℕ) × (k < length asked) × HoldsAt (λ order. order.source ≡ v) asked k) sources
  pub has_bit : (k : ℕ) → k < length bits → get_or bits k 0 < length sources
  pub has_source : (k : ℕ) → k < length bits → HoldsAt (λ order. get_or sources (get_or bits k 0) 0 ≡ order.source) asked (from + k)

pub grown : (asked : List Arc) (from place : ℕ) (sources bits : List ℕ) → IsGrowing asked from place sources bits → place ≤ length asked → 0 < length bits
    → IsBlock asked from sources bits
grown asked from place sources bits growing low some = record {
  few = growing.few;
  some = some;
  size = omega (arith, growing.size);
  inside = growing.inside;
  has_bit = growing.has_bit;
  has_source = growing.has_source;
}

module _ (asked : List Arc) (from place : ℕ) (sources bits : List ℕ) (growing : IsGrowing asked from place sources bits) (near : place < length asked) where
  -- an order from the last source
  pub grow_same : (bit : ℕ) → bit < length sources → HoldsAt (λ order. get_or sources bit 0 ≡ order.source) asked place
      → IsGrowing asked from (place + 1) sources (bits ++ bit ∷ [])
  grow_same bit low is = record {
    few = growing.few;
    short = omega (arith, growing.short, length-append bits (bit ∷ []));
    size = omega (arith, growing.size, length-append bits (bit ∷ []));
    inside = growing.inside;
    has_bit = λ k lt. elim (at_push bits bit k (omega (arith, length-append bits (bit ∷ [])))) [
      | inl (e, s) ↦ rw s low
      | inr (lt2, s) ↦ rw s (growing.has_bit k lt2)
    ];
    has_source = λ k lt d. elim (at_push bits bit k (omega (arith, length-append bits (bit ∷ [])))) [
      | inl (e, s) ↦ (let at : place ≡ from + k = omega (arith, growing.size) in
          rw s (subst (λ (i : ℕ). get_or sources bit 0 ≡ (get_or asked i d).source) at (is d)))
      | inr (lt2, s) ↦ rw s (growing.has_source k lt2 d)
    ];
  }

  -- a source more
  with_source : (source : ℕ) → length sources < 64 → HoldsAt (λ order. order.source ≡ source) asked place
      → (k : ℕ) → k < length bits → get_or (sources ++ source ∷ []) (get_or bits k 0) 0 ≡ get_or sources (get_or bits k 0) 0
  with_source source room is k lt = elim (at_push sources source (get_or bits k 0) (omega (arith, growing.has_bit k lt))) [
    | inl (e, s) ↦ absurd (omega (arith, growing.has_bit k lt))
    | inr (lt2, s) ↦ s
  ]

  -- an order from a source that is new
  pub grow_new : (source bit : ℕ) → length sources < 64 → bit ≡ length sources → HoldsAt (λ order. order.source ≡ source) asked place
      → IsGrowing asked from (place + 1) (sources ++ source ∷ []) (bits ++ bit ∷ [])
  grow_new source bit room at_end is = record {
    few = omega (arith, length-append sources (source ∷ []));
    short = omega (arith, growing.short, length-append bits (bit ∷ []), length-append sources (source ∷ []));
    size = omega (arith, growing.size, length-append bits (bit ∷ []));
    inside = All-push (λ v. (k : ℕ) × (k < length asked) × HoldsAt (λ order. order.source ≡ v) asked k) sources source growing.inside (place, near, is);
    has_bit = λ k lt. elim (at_push bits bit k (omega (arith, length-append bits (bit ∷ [])))) [
      | inl (e, s) ↦ rw s (omega (arith, length-append sources (source ∷ [])))
      | inr (lt2, s) ↦ rw s (omega (arith, growing.has_bit k lt2, length-append sources (source ∷ [])))
    ];
    has_source = λ k lt d. elim (at_push bits bit k (omega (arith, length-append bits (bit ∷ [])))) [
      | inl (e, s) ↦
          (let at : place ≡ from + k = omega (arith, growing.size) in
          let last : get_or (sources ++ source ∷ []) bit 0 ≡ source = ap (λ (i : ℕ). get_or (sources ++ source ∷ []) i 0) at_end ∙ get_or-append_seam sources source [] 0 in
          rw s (last ∙ subst (λ (i : ℕ). source ≡ (get_or asked i d).source) at (sym (is d))))
      | inr (lt2, s) ↦ rw s (with_source source room is k lt2 ∙ growing.has_source k lt2 d)
    ];
  }
