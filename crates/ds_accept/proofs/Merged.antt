-- Orders and arcs that are gone through side by side.
use Rattle.std.proofs.Common.{◌≡◌, ◌⊎◌, inl, inr, ℕ, ◌+◌, ◌<◌, ◌≤◌, List, [], ◌∷◌, ◌++◌, length, get_or, sym, ◌∙◌, ap, subst, arith, All, AllPairs, Contains}
use Rattle.std.specs.List.{AllWithin, HoldsAt}
use Rattle.std.proofs.lemmas.Bool.{cases_eq, cases_lt}
use Rattle.std.proofs.lemmas.List.{get_or_default}
use Rattle.std.proofs.lemmas.List.Elements.{All-push, AllWithin-more, Contains-append_left, Contains-push}
use Rattle.std.proofs.lemmas.List.Quantifiers.{all_pairs_push}
use Rattle.ds_marked.specs.Graph.{StandsBefore}
use Rattle.ds_marked.specs.declared.marked.Arc.{Arc}
use Rattle.ds_accept.specs.Steps.{AreLeft, EndsBefore, IsArcWithin, IsGivenBy}

-- ends before the ends of an order stand before those of a later one
ends_later : (a b c : Arc) → EndsBefore a b → StandsBefore b c → EndsBefore a c
ends_later a b c (inl s) (inl t) = inl (omega arith)
ends_later a b c (inl s) (inr (t, more)) = inl (omega arith)
ends_later a b c (inr (s, low)) (inl t) = inl (omega arith)
ends_later a b c (inr (s, low)) (inr (t, inl high)) = inr (omega arith, omega arith)
ends_later a b c (inr (s, low)) (inr (t, inr (high, tokens))) = inr (omega arith, omega arith)

module _ (orders arcs : List Arc) (orders_sorted : AllPairs StandsBefore orders) (arcs_sorted : AllPairs StandsBefore arcs) where
  pub later : (k place : ℕ) (order : Arc) → order ≡ get_or orders k order → k < length orders
      → AllWithin (λ arc. EndsBefore arc order) arcs 0 place
      → (d : Arc) → k + 1 < length orders → AllWithin (λ arc. EndsBefore arc (get_or orders (k + 1) d)) arcs 0 place
  later k place order is inside before d next j e low below =
      ends_later (get_or arcs j e) order (get_or orders (k + 1) d) (before j e low below)
      (subst (λ (x : Arc). StandsBefore x (get_or orders (k + 1) d)) (sym (is ∙ get_or_default orders k order d inside))
      (orders_sorted k (k + 1) d (omega arith) next))

  -- an arc that gives an order stands at the place, or behind arcs that give it too
  past : (place : ℕ) (order arc first : Arc) → (j : ℕ) → first ≡ get_or arcs place first → place < length arcs → arc ≡ get_or arcs j arc
      → j < length arcs → place ≤ j → ¬ EndsBefore first order → IsArcWithin order.source order.target order.tokens arc
      → IsArcWithin order.source order.target order.tokens first
  past place order arc first j first_is inside arc_is below high unlike (source, target, tokens) = elim (cases_eq place j) [
    | inl same ↦ subst (IsArcWithin order.source order.target order.tokens)
        (arc_is ∙ (ap (λ (n : ℕ). get_or arcs n arc) (sym same) ∙ (get_or_default arcs place arc first inside ∙ sym first_is))) (source, target, tokens)
    | inr differs ↦ (
        let order_of : StandsBefore first arc = subst (λ (x : Arc). StandsBefore x arc) (get_or_default arcs place arc first inside ∙ sym first_is)
        (subst (StandsBefore (get_or arcs place arc)) (sym arc_is) (arcs_sorted place j arc (omega arith) below)) in
        elim order_of [
          | inl low ↦ absurd (unlike (inl (omega arith)))
          | inr (same, inl low) ↦ absurd (unlike (inr (omega arith, omega arith)))
          | inr (same, inr (ends, few)) ↦ (omega arith, omega arith, omega arith)
        ])
  ]

  -- where any arc gives the order, the one at the place does
  pub given_here : (place : ℕ) (order : Arc) → AllWithin (λ arc. EndsBefore arc order) arcs 0 place → place < length arcs
      → HoldsAt (λ arc. ¬ EndsBefore arc order) arcs place → IsGivenBy arcs order
      → IsArcWithin order.source order.target order.tokens (get_or arcs place order)
  given_here place order before inside behind (j, arc, below, is, (source, target, tokens)) = elim (cases_lt j place) [
    | inl low ↦ (
        let ends : EndsBefore arc order = subst (λ (x : Arc). EndsBefore x order) is (before j arc (omega arith) low) in
        elim ends [ inl s ↦ absurd (omega arith) | inr (s, t) ↦ absurd (omega arith) ])
    | inr high ↦ past place order arc (get_or arcs place order) j (sym (get_or_default arcs place (get_or arcs place order) order inside))
        inside (sym is) below (omega arith) (behind order) (source, target, tokens)
  ]

  -- the arc at the place tells whether any gives the order
  pub gives_any : (place : ℕ) (order arc : Arc) → place < length arcs → arc ≡ get_or arcs place arc
      → IsArcWithin order.source order.target order.tokens arc → IsGivenBy arcs order
  gives_any place order arc low is gives = (place, arc, low, sym is, gives)

-- the first orders, and those of them that no arc gives
pub record AreLeftOf (orders arcs : List Arc) (k : ℕ) (left : List Arc) : Type 0 where
  pub some : All (λ order. (j : ℕ) × (j < k) × HoldsAt (λ x. x ≡ order) orders j) left
  pub sorted : AllPairs StandsBefore left
  pub lack : All (λ order. ¬ IsGivenBy arcs order) left
  pub others : AllWithin (λ order. IsGivenBy arcs order ⊎ Contains left order) orders 0 k

module _ (orders arcs : List Arc) (sorted : AllPairs StandsBefore orders) (k : ℕ) (left : List Arc) (are : AreLeftOf orders arcs k left)
    (order : Arc) (is : order ≡ get_or orders k order) (inside : k < length orders) where
  at_order : (d : Arc) → order ≡ get_or orders k d
  at_order d = is ∙ get_or_default orders k order d inside

  sooner : All (λ o. (j : ℕ) × (j < k + 1) × HoldsAt (λ x. x ≡ o) orders j) left
  sooner i d low = (let (j, below, at) = are.some i d low in (j, omega arith, at))

  -- an order more that an arc gives
  pub left_given : IsGivenBy arcs order → AreLeftOf orders arcs (k + 1) left
  left_given given = record {
    some = sooner;
    sorted = are.sorted;
    lack = are.lack;
    others = AllWithin-more (λ o. IsGivenBy arcs o ⊎ Contains left o) orders 0 k are.others
        (λ d. inl (subst (IsGivenBy arcs) (at_order d) given));
  }

  stands_last : (i : ℕ) (d : Arc) → i < length left → StandsBefore (get_or left i d) order
  stands_last i d low =
      let (j, below, at) = are.some i d low in
      subst (λ (x : Arc). StandsBefore (get_or left i d) x) (sym (at_order d))
      (subst (λ (x : Arc). StandsBefore x (get_or orders k d)) (at d) (sorted j k d below inside))

  still : (o : Arc) → IsGivenBy arcs o ⊎ Contains left o → IsGivenBy arcs o ⊎ Contains (left ++ order ∷ []) o
  still o (inl by) = inl by
  still o (inr has) = inr (Contains-append_left left (order ∷ []) o has)

  -- one more that none gives
  pub left_lacks : ¬ IsGivenBy arcs order → AreLeftOf orders arcs (k + 1) (left ++ order ∷ [])
  left_lacks none = record {
    some = All-push (λ o. (j : ℕ) × (j < k + 1) × HoldsAt (λ x. x ≡ o) orders j) left order sooner (k, omega arith, λ d. sym (at_order d));
    sorted = all_pairs_push StandsBefore left order are.sorted stands_last;
    lack = All-push (λ o. ¬ IsGivenBy arcs o) left order are.lack none;
    others = AllWithin-more (λ o. IsGivenBy arcs o ⊎ Contains (left ++ order ∷ []) o) orders 0 k
        (λ j d zero_low below. still (get_or orders j d) (are.others j d zero_low below))
        (λ d. inr (subst (Contains (left ++ order ∷ [])) (at_order d) (Contains-push left order)));
  }

-- all orders
pub all_left : (orders arcs : List Arc) (k : ℕ) (left : List Arc) → AreLeftOf orders arcs k left → k ≡ length orders → AreLeft orders arcs left
all_left orders arcs k left are all = record {
  some = λ i d low. (let (j, below, at) = are.some i d low in (j, rw (sym all) below, at (get_or left i d)));
  sorted = are.sorted;
  lack = are.lack;
  others = λ j d low. are.others j d (omega arith) (omega (low, all, arith));
}
