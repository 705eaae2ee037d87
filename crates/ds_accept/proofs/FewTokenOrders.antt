-- Orders with one token at most stand for those asked.
use Rattle.std.proofs.Common.{◌≡◌, ◌∙◌, ◌<◌, ◌≤◌, ◌+◌, ℕ, List, length, get_or, arith, subst, sym, ap, map, None}
use Rattle.std.specs.Prelude.{All, min}
use Rattle.std.specs.List.{HoldsAt}
use Rattle.std.proofs.lemmas.List.{get_or-map, length-map}
use Rattle.ds_marked.specs.Graph.{AreEnds, Graph}
use Rattle.ds_marked.specs.declared.marked.Arc.{Arc}
use Rattle.ds_accept.specs.Given.{IsGiven, IsFirstUnmetBelow, capped}
use Rattle.ds_accept.specs.Masks.{IsBlock}

module _ (asked : List Arc) where
  abbrev few : List Arc
  few = map capped asked

  size : length few ≡ length asked
  size = length-map asked capped

  at : (k : ℕ) (d : Arc) → k < length asked → get_or few k d ≡ capped (get_or asked k d)
  at k d inside = get_or-map capped asked k d d inside

  pub capped_ends : (events : ℕ) → AreEnds events asked → AreEnds events few
  capped_ends events ends k d inside =
      let near : k < length asked = omega (arith, size) in
      subst (λ (order : Arc). (order.source < events) × (order.target < events)) (sym (at k d near)) (ends k d near)

  pub capped_tokens : All (λ arc. arc.tokens < 2) few
  capped_tokens k d inside =
      let near : k < length asked = omega (arith, size) in
      subst (λ (order : Arc). order.tokens < 2) (sym (at k d near)) (low (get_or asked k d).tokens)
    where
      low : (t : ℕ) → min t 1 < 2
      low t = omega arith

  -- the sources are the same
  source_at : (k v : ℕ) → k < length asked → HoldsAt (λ order. order.source ≡ v) asked k → HoldsAt (λ order. order.source ≡ v) few k
  source_at k v near is = λ d. ap (λ (order : Arc). order.source) (at k d near) ∙ is d

  pub capped_block : (from : ℕ) (sources bits : List ℕ) → IsBlock asked from sources bits → IsBlock few from sources bits
  capped_block from sources bits block = record {
    few = block.few;
    some = block.some;
    size = omega (arith, size, block.size);
    inside = λ k d inside. (let (j, near, is) = block.inside k d inside in (j, omega (arith, size), source_at j (get_or sources k d) near is));
    has_bit = block.has_bit;
    has_source = λ k low d. (
        let near : from + k < length asked = omega (arith, block.size) in
        block.has_source k low d ∙ sym (ap (λ (order : Arc). order.source) (at (from + k) d near)));
  }

  module _ (g : Graph) where
    given_more : (order : Arc) → IsGiven g (capped order) → IsGiven g order
    given_more order (sum, low, walk) = (sum, omega arith, walk)

    pub capped_given : (from to : ℕ) → to ≤ length asked → IsFirstUnmetBelow g few from to None → IsFirstUnmetBelow g asked from to None
    capped_given from to size all k d low high =
        let near : k < length asked = omega arith in
        given_more (get_or asked k d) (subst (IsGiven g) (at k d near) (all k d low high))
