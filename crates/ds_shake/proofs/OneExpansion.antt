-- A split design has one list of handshakes, and so one expansion at most.
use Rattle.std.proofs.Common.{◌≡◌, ◌⊎◌, inl, inr, ℕ, zero, suc, ◌<◌, List, [], ◌∷◌, length, get_or, map, refl, sym, ◌∙◌, ap, subst, arith, AllPairs, Contains, IsPermutation}
use Rattle.std.proofs.lemmas.List.{get_or-map, length-map, same_lists}
use Rattle.ds_marked.specs.Graph.{StandsBefore}
use Rattle.ds_marked.specs.declared.marked.Arc.{Arc}
use Rattle.ds_marked.specs.declared.marked.Event.{Event}
use Rattle.ds_latch.specs.Node.{Split}
use Rattle.ds_accept.proofs.OnePlan.{same_arc_decided, stands_before-antisym}
use Rattle.ds_accept.proofs.OneSortedList.{same_sorted}
use Rattle.ds_shake.specs.Expansion.{expanded_arcs, expanded_events}
use Rattle.ds_shake.specs.Handshakes.{AreHandshakes}
use Rattle.ds_shake.specs.Steps.{ends_of}
use Rattle.ds_shake.specs.Laws.{OneExpansion}
use Rattle.ds_shake.specs.declared.handshake.Handshake.{Handshake}
use Rattle.ds_shake.specs.declared.edge_ends.EdgeEnds.{EdgeEnds}
use Rattle.ds_shake.proofs.HandshakeNodes.{Joins, joins}
use Rattle.ds_shake.proofs.NumberedHandshakes.{from_map, same_pair, to_map}

module _ {X : Type 0} (Before : X → X → Type 0) (never : (x y : X) → Before x y → ¬ Before y x) where
  first_of : (x : X) (xs : List X) → AllPairs Before (x ∷ xs) → (y : X) → Contains xs y → Before x y
  first_of x xs pairs y (k, inside, is) = subst (Before x) is (pairs 0 (suc k) y (omega arith) (omega (inside, arith)))

  rest_of : (x : X) (xs : List X) → AllPairs Before (x ∷ xs) → AllPairs Before xs
  rest_of x xs pairs i j d below inside = pairs (suc i) (suc j) d (omega (below, arith)) (omega (inside, arith))

  which : (x : X) (xs : List X) (y : X) → Contains (x ∷ xs) y → (x ≡ y) ⊎ Contains xs y
  which x xs y (zero, inside, is) = inl is
  which x xs y (suc k, inside, is) = inr (k, omega (inside, arith), is)

  later : (x : X) (xs : List X) (y : X) → Contains xs y → Contains (x ∷ xs) y
  later x xs y (k, inside, is) = (suc k, omega (inside, arith), is)

  heads : (x y : X) (xs ys : List X) → AllPairs Before (x ∷ xs) → AllPairs Before (y ∷ ys) → Contains (y ∷ ys) x → Contains (x ∷ xs) y → x ≡ y
  heads x y xs ys up down to from = elim (which y ys x to) [
    | inl e ↦ sym e
    | inr behind ↦ elim (which x xs y from) [
      | inl e ↦ e
      | inr after ↦ absurd (never x y (first_of x xs up y after) (first_of y ys down x behind))
    ]
  ]

  tails : (x y : X) (xs ys : List X) → x ≡ y → AllPairs Before (x ∷ xs) → ((z : X) → Contains (x ∷ xs) z → Contains (y ∷ ys) z) → (z : X) → Contains xs z → Contains ys z
  tails x y xs ys same up to z at = elim (which y ys z (to z (later x xs z at))) [
    | inl e ↦ absurd (let less : Before x z = first_of x xs up z at in
        let self : Before z z = subst (λ (w : X). Before w z) (same ∙ e) less in
        never z z self self)
    | inr there ↦ there
  ]

  -- lists in a strict order with the same elements are the same
  pub same_members : (xs ys : List X) → AllPairs Before xs → AllPairs Before ys → ((z : X) → Contains xs z → Contains ys z)
      → ((z : X) → Contains ys z → Contains xs z) → xs ≡ ys
  same_members [] [] up down to from = refl
  same_members [] (y ∷ ys) up down to from = absurd (let h = from y (0, omega arith, refl) in let low : h.0 < 0 = h.1 in omega (low, arith))
  same_members (x ∷ xs) [] up down to from = absurd (let h = to x (0, omega arith, refl) in let low : h.0 < 0 = h.1 in omega (low, arith))
  same_members (x ∷ xs) (y ∷ ys) up down to from =
      let e : x ≡ y = heads x y xs ys up down (to x (0, omega arith, refl)) (from y (0, omega arith, refl)) in
      let rest : xs ≡ ys = same_members xs ys (rest_of x xs up) (rest_of y ys down) (tails x y xs ys e up to) (tails y x ys xs (sym e) down from) in
      rw (e, rest) refl

-- ends stand before others
abbrev EndsBefore : EdgeEnds → EdgeEnds → Type 0
EndsBefore a b = (a.producer < b.producer) ⊎ ((a.producer ≡ b.producer) × (a.consumer < b.consumer))

never_both : (a b : EdgeEnds) → EndsBefore a b → ¬ EndsBefore b a
never_both a b (inl p) (inl q) = omega (p, q, arith)
never_both a b (inl p) (inr q) = (let e : b.producer ≡ a.producer = q.0 in omega (p, e, arith))
never_both a b (inr p) (inl q) = (let e : a.producer ≡ b.producer = p.0 in omega (q, e, arith))
never_both a b (inr p) (inr q) = omega (p.1, q.1, arith)

some_handshake : Handshake
some_handshake = record { number = 0; producer = 0; consumer = 0 }

same_handshake : (x y : Handshake) → x.number ≡ y.number → ends_of x ≡ ends_of y → x ≡ y
same_handshake x y e f =
    ap (λ (n : ℕ). let r : Handshake = record { number = n; producer = x.producer; consumer = x.consumer } in r) e
    ∙ ap (λ (p : EdgeEnds). let r : Handshake = record { number = y.number; producer = p.producer; consumer = p.consumer } in r) f

module _ (s : Split) where
  ends_sorted : (all : List Handshake) → AreHandshakes s all → AllPairs EndsBefore (map ends_of all)
  ends_sorted all are i j d below inside =
      let high : j < length all = rw (← length-map all ends_of) inside in
      let one : get_or (map ends_of all) i d ≡ ends_of (get_or all i some_handshake) = get_or-map ends_of all i some_handshake d (omega (below, high, arith)) in
      let two : get_or (map ends_of all) j d ≡ ends_of (get_or all j some_handshake) = get_or-map ends_of all j some_handshake d high in
      subst (λ (x : EdgeEnds). EndsBefore x (get_or (map ends_of all) j d)) (sym one)
      (subst (EndsBefore (ends_of (get_or all i some_handshake))) (sym two) (are.sorted i j some_handshake below high))

  -- the ends of one list are those of the other
  ends_there : (all other : List Handshake) → AreHandshakes s all → AreHandshakes s other → (z : EdgeEnds) → Contains (map ends_of all) z → Contains (map ends_of other) z
  ends_there all other are also z at =
      let (k, h, inside, is, ends) = from_map ends_of all z some_handshake at in
      let j : Joins s h = joins s all are h (k, inside, is) in
      let (m, x, there, found, (producer, consumer)) = (also.edges j.producer j.consumer).0 j.edge in
      let same : ends_of x ≡ z = same_pair (ends_of x) (ends_of h) (producer ∙ j.from) (consumer ∙ j.to) ∙ ends in
      subst (Contains (map ends_of other)) same (to_map ends_of other x (m, there, found))

  pub one_list : (all other : List Handshake) → AreHandshakes s all → AreHandshakes s other → all ≡ other
  one_list all other are also =
      let ends : map ends_of all ≡ map ends_of other = same_members EndsBefore never_both (map ends_of all) (map ends_of other) (ends_sorted all are) (ends_sorted other also)
      (ends_there all other are also) (ends_there other all also are) in
      let size : length all ≡ length other = sym (length-map all ends_of) ∙ (ap (λ (ps : List EdgeEnds). length ps) ends ∙ length-map other ends_of) in
      same_lists all other size (λ k d inside.
      let there : k < length other = omega (size, inside, arith) in
      let one : (get_or all k d).number ≡ k = are.numbered k inside d in
      let two : (get_or other k d).number ≡ k = also.numbered k there d in
      same_handshake (get_or all k d) (get_or other k d) (one ∙ sym two)
      (sym (get_or-map ends_of all k d (ends_of d) inside) ∙ (ap (λ (ps : List EdgeEnds). get_or ps k (ends_of d)) ends ∙ get_or-map ends_of other k d (ends_of d) there)))

pub one_expansion_lem : OneExpansion
one_expansion_lem s one other first second is also =
    let same : is.handshakes ≡ also.handshakes = one_list s is.handshakes also.handshakes is.are also.are in
    let events : one.events ≡ other.events = is.events ∙ (ap (expanded_events s) same ∙ sym also.events) in
    let arcs : one.arcs ≡ other.arcs = same_sorted same_arc_decided StandsBefore stands_before-antisym (expanded_arcs s is.handshakes) one.arcs other.arcs first.sorted second.sorted is.arcs
    (subst (λ (all : List Handshake). IsPermutation (expanded_arcs s all) other.arcs) (sym same) also.arcs) in
    ap (λ (es : List Event). record { events = es; arcs = one.arcs }) events ∙ ap (λ (arcs : List Arc). record { events = other.events; arcs = arcs }) arcs
